-- What put_hex wrote is ASCII, and so it is text.
use native.Mathlib.Omega.{arith}
use mathlib.Core.Path.{refl}
use Rattle.std.proofs.Common.{rules}
use Rattle.std.specs.Prelude.{Result, Ok, Err, MatchResult, IsOk}
use Rattle.text.proofs.Pairs.{hexadecimal_is_text, hex_short}
use Rattle.console.proofs.output.write_piece.Goals as goal

taken : {T E : Type 0} (P : T → Type 0) (U : Type 0) (Q : E → Type 0) (r : Result T E) → MatchResult r P (λ e. ¬ U × Q e) → U → IsOk r
taken P U Q (Ok x) h u = refl
taken P U Q (Err e) h u = absurd (h.0 u)

pub unwrap-requires : goal.unwrap-requires
unwrap-requires g c = taken _ _ _ c.from_utf8.result c.from_utf8.ensures.cases (hexadecimal_is_text c.args.piece.now _ c.put_hex-k.new.room c.put_hex-k.result c.put_hex-k.ensures.there c.put_hex-k.ensures.next (omega (arith, hex_short c.args.piece.now)) (λ i. search (rules, c.type_inv.piece i)))
