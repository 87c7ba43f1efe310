use mathlib.Core.Path.{◌≡◌, sym, ◌∙◌}
use Prim.Native.Nat.{◌-◌}
use native.Mathlib.Omega.{arith}
use lib.ListN.{length, take, drop, length-take, length-drop}
use Rattle.base.proofs.Lists.{rest-is}
use Rattle.text.specs.Words.{last_word}
use Rattle.text.proofs.Ends.{last-whole, last-behind}
use Rattle.text.proofs.words.decode_last.Goals.{in-Some, in-None}
use Rattle.text.proofs.words.decode_last.Goals as goal

pub returns : goal.returns
returns c =
    let s = c.args.line.now in
    let is : take (length s - c.match-last_space.start) (drop c.match-last_space.start s) ≡ last_word s =
    rest-is s c.match-last_space.start
    ∙ elim c.match-last_space.branch [
      | in-Some w ↦ rw w.start-is (sym (last-behind s w.in-Some.at w.in-Some.ensures.0 w.in-Some.ensures.1 w.in-Some.ensures.2))
      | in-None w ↦ rw w.start-is (sym (last-whole s w.in-None.ensures))
    ] in
    (rw (← is) c.decode-n.ensures.0, omega (arith, length-take c.decode-n.result c.decode-n.new.word, length-take (length s - c.match-last_space.start) (drop c.match-last_space.start s), length-drop c.match-last_space.start s, c.decode-n.ensures.1))
