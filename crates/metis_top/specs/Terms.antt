-- What clauses and proofs cite of this crate, by one module.
pub use Rattle.metis_top.specs.Adapters.{HeadlineInBytes, IsCalm}
pub use Rattle.metis_top.specs.Answers.{IsAnswer}
pub use Rattle.metis_top.specs.Course.{Ends, Halts, OnShelf, Performs, Ran, Says, StopSays}
pub use Rattle.metis_top.specs.Deployment.{Deploys, DeploysOrRefuses, EndsTidy, InAnyOrder}
pub use Rattle.metis_top.specs.Honest.{Headline, IsThePlan, PlansHave, Tells, Undisturbed, over}
pub use Rattle.metis_top.specs.Lines.{fault_line, fault_status, hosts_fault_line, is_told, limit_line, part_line, read_fault_line, state_line, text_fault_line, two_line, universe_line, wishes_fault_line}
pub use Rattle.metis_top.specs.Numbered.{Numbered, TellsReadFault}
pub use Rattle.metis_top.specs.Openings.{IsAnswered, OpensFiles, OpensSome}
pub use Rattle.metis_top.specs.Over.{Over}
pub use Rattle.metis_top.specs.Program.{IsRun}
