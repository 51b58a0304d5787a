-- The members of an object, as they are taken out of it.
--     object_of m      the object with these members
--     KeepsOthers key old new      at each other key the new object has what the old one has
use Rattle.std.specs.Prelude.{◌≡◌, ℕ, List, false, String}
use Rattle.std.specs.BTreeMap.{BTreeMap}
use Rattle.std.specs.Str.{bytes_eq}
use Rattle.std.specs.declared.alloc.Global.{Global}
use Rattle.serde_json.specs.Data.{Data, object}
use Rattle.serde_json.specs.Find.{get}
use Rattle.serde_json.specs.View.{members_view}
use Rattle.serde_json.specs.declared.value.Value.{Value}

abbrev pub object_of : BTreeMap (String Global) Value → Data
object_of m = object (members_view m.entries)

abbrev pub KeepsOthers : List ℕ → Data → Data → Type 0
KeepsOthers key old new = (other : List ℕ) → bytes_eq key other ≡ false → get other new ≡ get other old
