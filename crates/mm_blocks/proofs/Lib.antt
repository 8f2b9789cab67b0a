pub mod CheckLemmas
pub mod TableLemmas
pub mod BurstLemmas
pub mod SoundLemmas
pub mod LayoutLemmas
pub mod WriteLemmas
