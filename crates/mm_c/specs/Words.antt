-- The words of the crates below, and the types of this one, in which its definitions are written, passed on from one
-- place.
pub use Rattle.std.specs.Prelude.{Bool, Err, List, None, Ok, Option, Result, Some, length, map, nat_le, replicate, sum}
pub use Rattle.std.specs.Prelude.{ℕ, ⊤}
pub use Rattle.mm_problem.specs.declared.fault.Fault.{Fault as SetupFault}
pub use Rattle.mm_service.specs.Serving.{Serving, after_refusal, opened_of}
pub use Rattle.mm_service.specs.declared.fault.Fault.{Fault}
pub use Rattle.mm_service.specs.declared.fault.Fault.TheVariants.{NoMemory}
pub use Rattle.mm_told.specs.Reasons.{no_memory, of_setup, of_texts}
pub use Rattle.mm_told.specs.Telling.{length_answer, refused_answer}
pub use Rattle.mm_told.specs.declared.answer.Answer.{Answer}
pub use Rattle.mm_told.specs.declared.answer.Status.TheVariants.{Closed, End, Open, TooSmall, Written}
pub use Rattle.mm_told.specs.declared.reason.Reason.{Reason}
pub use Rattle.mm_told.specs.declared.spot.Spot.TheVariants.{Whole}
