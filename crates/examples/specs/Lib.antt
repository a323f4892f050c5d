-- the papers' examples, from raw bytes by computation: sheets and the three jobs, typed texts, tables written and read. That the tables
-- of Examples hold is proved in proofs/, where an edit of a row refuses them
pub mod Examples
pub mod TypedExamples
pub mod WritingExamples
