use Rattle.std.proofs.Common.{◌≡◌, length}
use Rattle.std.specs.Vec.Iter.{into_iter_items, into_iter_len}
use Rattle.metis_universe.specs.Terms.{texts}
use Rattle.serde_json.specs.View.{items_view}
use Rattle.metis_ujson.specs.Terms.{texts_in}
use Rattle.metis_ujson.proofs.Fronts.{after_front}
use Rattle.metis_ujson.proofs.members.read_texts.Given as goal

abbrev pub invariant-loop-item : goal.invariant-loop-item
invariant-loop-item l = record {
  texts : after_front (texts l.list.items) (texts_in (items_view (into_iter_items l.item-iterator))) ≡ texts_in (items_view l.fn.items.items);
  left : into_iter_len l.item-iterator ≡ length (into_iter_items l.item-iterator);
}
