pub mod OpenHunkLemmas
pub mod UnitHunkLemmas
pub mod UnitBuilderLemmas
pub mod PartialLemmas
pub mod GlobalsLemmas
