pub mod ContentLemmas
pub mod PutLemmas
pub mod TableLemmas
