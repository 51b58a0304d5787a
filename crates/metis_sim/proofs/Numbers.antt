-- Numbers that tokens are.
use Rattle.std.proofs.Common.{◌≡◌, Option, Some, None, refl}
use Rattle.std.specs.Option.{ok_or}
use Rattle.std.specs.Result.{result_ok}

-- what is there is there again behind an error for what is not
pub some_again : {A E : Type 0} (e : E) (o : Option A) → o ≡ result_ok (ok_or o e)
some_again e None = refl
some_again e (Some a) = refl
