mod NumberLemmas
mod ValueLemmas
mod Streaming
mod Takings
