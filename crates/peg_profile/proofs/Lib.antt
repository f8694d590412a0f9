mod CountLemmas
mod ProfileLemmas
