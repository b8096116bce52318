mod ChunkHeaps
