-- Lists that are read from the front: what was read, before what the rest means.
use Rattle.std.proofs.Common.{◌≡◌, ℕ, ◌+◌, ◌<◌, List, [], ◌∷◌, ◌++◌, Option, Some, None, Result, Ok, Err, refl, sym, ap, ◌∙◌, append_assoc, get_or, length, map, take}
use Rattle.std.proofs.lemmas.List.{map-append, take_more}
use Rattle.serde_json.specs.Data.{string}
use Rattle.serde_json.specs.View.{view}
use Rattle.serde_json.specs.declared.value.Value.{Value}
use Rattle.metis_universe.specs.Terms.{StateRow, TypeRow}
use Rattle.metis_ujson.specs.Terms.{with_first, with_state, with_type}
use Rattle.metis_ujson.specs.declared.faults.UFault.{UFault}

abbrev pub after_front : {A : Type 0} → List A → Option (List A) → Option (List A)
after_front front None = None
after_front front (Some rest) = Some (front ++ rest)

abbrev pub behind : {A : Type 0} → List A → Result (List A) UFault → Result (List A) UFault
behind front (Err fault) = Err fault
behind front (Ok rest) = Ok (front ++ rest)

pub after_front-first : {A : Type 0} (front : List A) (x : A) (rest : Option (List A)) → after_front front (with_first (Some x) rest) ≡ after_front (front ++ x ∷ []) rest
after_front-first front x None = refl
after_front-first front x (Some rest) = ap Some (sym (append_assoc front (x ∷ []) rest))

pub behind-state : (front : List StateRow) (row : StateRow) (fault : UFault) (rest : Result (List StateRow) UFault)
    → behind front (with_state (Some row) fault rest) ≡ behind (front ++ row ∷ []) rest
behind-state front row fault (Err later) = refl
behind-state front row fault (Ok rest) = ap Ok (sym (append_assoc front (row ∷ []) rest))

pub behind-type : (front : List TypeRow) (row : TypeRow) (rest : Result (List TypeRow) UFault) → behind front (with_type (Ok row) rest) ≡ behind (front ++ row ∷ []) rest
behind-type front row (Err later) = refl
behind-type front row (Ok rest) = ap Ok (sym (append_assoc front (row ∷ []) rest))

-- one name more of a list
pub names-next : (name : ℕ → List ℕ) (names names' : List Value) (xs : List ℕ) (i x : ℕ) (v : Value) → i < length xs → x ≡ get_or xs i x → names' ≡ names ++ v ∷ [] → view v ≡ string (name x) →
    map view names ≡ map string (map name (take i xs)) → map view names' ≡ map string (map name (take (i + 1) xs))
names-next name names names' xs i x v low is more named old =
    ap (map view) more ∙ map-append view names (v ∷ []) ∙ (λ j. old j ++ named j ∷ [])
    ∙ sym (ap (λ l. map string (map name l)) (take_more xs i x low) ∙ ap (λ y. map string (map name (take i xs ++ y ∷ []))) (sym is)
    ∙ ap (map string) (map-append name (take i xs) (x ∷ [])) ∙ map-append string (map name (take i xs)) (name x ∷ []))
