mod NumberLemmas
mod WalkLemmas
mod ClapLemmas
