mod ForestRows
mod Forests
mod ItemRows
mod JsonNested
mod JsonRows
mod LevelRows
mod NestedEvents
mod NodeRows
mod PartRows
mod PrintedRows
mod Puts
mod RowEvents
mod RowTexts
mod SelectedLaws
mod SelectedLemmas
pub mod Sent
mod TextLemmas
mod TextRows
