-- What clauses and proofs cite of this crate, by one module.
pub use Rattle.metis_wishes.specs.Reading.{HaveOwnSubjects, IsSaidBy, avoided_in, instance_in, is_last, kept_in, more_wishes, wish_in, wish_lines, wish_of, wishes_in, with_wish}
pub use Rattle.metis_wishes.specs.Wishes.{avoided, avoids, instance_of, is_about, is_avoided, is_everything, is_instance, is_keep_all, is_kind, is_pair, is_same, keeps_all, kept, kept_of, named, rebound, rebound_of, retired, retired_of, subject_of}
