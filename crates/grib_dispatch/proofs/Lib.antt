pub mod Editions
pub mod HeardMessages
