mod PoolLemmas
