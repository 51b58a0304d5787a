mod Alike
mod AnswersThere
mod Attained
mod AuditsThere
mod Explained
mod Firsts
mod Leaving
mod Obstacles
mod Placements
mod Plain
mod Planned
mod PlansThere
mod Reconfigured
mod Reconfiguring
mod Refuted
mod Replayed
mod Runs
mod Scripts
mod Staying
mod Unsteady
mod WavesThere
pub mod ReconfiguresThere
pub mod Scripted
