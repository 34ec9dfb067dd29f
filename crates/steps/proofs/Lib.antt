-- Laws that the proofs cite, and callers too: steps in rows, and reading and spelling a policy's paths.
pub mod StepRows
pub mod StepBytes
pub mod StepReaders
pub mod StepTexts
pub mod StepPushes
