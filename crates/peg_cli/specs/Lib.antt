pub mod ErrorAnswers
pub mod Mapping
pub mod Numbers
pub mod Words
