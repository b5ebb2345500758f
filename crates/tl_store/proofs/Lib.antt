pub mod PeriodLemmas
pub mod RowLemmas
pub mod ChangeLemmas
pub mod LogLemmas
pub mod StampLemmas
pub mod MaskLemmas
