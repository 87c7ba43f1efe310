use native.Mathlib.Omega.{arith}
use mathlib.Core.Path.{refl, ap, ◌≡◌}
use Prim.Native.Nat.{◌+◌, ◌-◌}
use lib.ListN.{take, drop}
use Rattle.ledger.proofs.look.show.Goals as goal

pub returns : goal.returns
returns c =
    let e : c.pingvratha_show-x.result.start + c.pingvratha_show-x.result.length - c.pingvratha_show-x.result.start ≡ c.pingvratha_show-x.result.length = omega arith in
    (c.pingvratha_show-x.result, c.pingvratha_show-x.ensures, ap (λ n. take n (drop c.pingvratha_show-x.result.start c.args.memory.now)) e, refl, refl)
