-- What clauses and proofs cite of this crate, by one module.
pub use Rattle.metis_sim.specs.Asked.{IsAskedOf, KeepsEnough, asked_by, asked_in, asked_of_words, forgotten, taken, unkept}
pub use Rattle.metis_sim.specs.Changes.{AreUndoable, IsChangeOf, IsFit, IsUndoable, before, befores, takes_away}
pub use Rattle.metis_sim.specs.Checks.{check_reply, goals_behind, goals_of, most_targets, reply_on, said_by, said_of}
pub use Rattle.metis_sim.specs.Forms.{HasForm, IsMove, IsNumber, IsOfUnknown, IsOrder, IsTie, NamesNoState, NamesNothing, Order, binds, checks, deletes, is_order, is_quit, is_show, makes, moves, order_words, unbinds}
pub use Rattle.metis_sim.specs.Orders.{action_in, between, bind_args, delete_args, delete_in, formed, known, move_args, move_in, move_states, named, new_args, new_in, on, present, tie_args, tie_ends, unbind_args}
unfoldable pub use Rattle.metis_sim.specs.Orders.{ends_in}
pub use Rattle.metis_sim.specs.Replies.{IsReplyOf, binding_line, counts_line, instance_line, refused_line, reply_lines}
pub use Rattle.metis_sim.specs.Session.{Answer, IsSound, Session, acted, after_line, after_lines, answer, answer_to_line, answer_to_words, begin, changes, done, done_by, replies, reply, session_of, takes_none, told, undone, undone_by}
pub use Rattle.metis_sim.specs.SessionLines.{replies_to}
pub use Rattle.metis_sim.specs.Words.{goal_of_word, is_pair_word, number_of}
