pub mod RecordLemmas
pub mod RowsLemmas
pub mod RowBlocksLemmas
pub mod ImageTextExampleLemmas
pub mod ImageTextLemmas
