-- How many payments and how many bytes a report can have. Assumes nothing.
use mathlib.Core.Path.{◌≡◌, ap}
use mathlib.Core.Bool.{true}
use mathlib.Core.List.{List, [], ◌∷◌}
use mathlib.Core.Option.{Option, none, some}
use Prim.Native.Nat.{ℕ, ◌*◌, ◌≤◌, ◌<◌}
use native.Mathlib.Omega.{arith}
use lib.ListN.{length, take, drop, length-append, length-take}
use lib.Dec.{ltb, leb}
use Rattle.base.specs.Bytes.{most_u32}
use Rattle.base.specs.Lists.{keep, join_all}
use Rattle.base.proofs.Tests.{by_test}
use Rattle.base.proofs.Options.{nothing, by_option, cond_yes, or_else_some}
use Rattle.wire.specs.Row.{length_of, value_of, size_of, tlvs}
use Rattle.wire.specs.Order.{good}
use Rattle.wire.specs.Groups.{Read, above, up_to, any_groups, read_groups}
use Rattle.wire.specs.Payment.{Payment, read_payment}
use Rattle.wire.proofs.Good.{Whole, Wholes, tlvs-whole, tlvs-joined, good-row, good-fits}
use Rattle.model.specs.Figures.{data_limit}
use Rattle.model.specs.Table.{Entry, statements}
use Rattle.model.specs.Totals.{is_payment, payments_of, payments_in, readable}
use Rattle.model.proofs.Totals.{readable_append}
use Rattle.table.specs.View.{AllGood}

-- ---- a readable payment takes eight bytes at least

-- a number that is read takes one byte at least
abbrev Shorter : List ℕ → Option Read → Type 0
Shorter s none = Unit {0}
Shorter s (some r) = length r.rest < length s

above_shorter : (b : ℕ) (s : List ℕ) (o : Option Read) → Shorter s o → Shorter (b ∷ s) (above b o)
above_shorter b s none h = tt
above_shorter b s (some r) h = omega arith

any_shorter : (least : ℕ) (s : List ℕ) → Shorter s (any_groups least s)
unfolding any_groups
any_shorter least [] = tt
any_shorter least (b ∷ s) =
    by_test (ltb b 128)
    (λ e. rw e (by_test (ltb b least) (λ q. rw q tt) (λ q. rw q (omega arith))))
    (λ e. rw e (above_shorter b s (any_groups 1 s) (any_shorter 1 s)))

up_to_shorter : (m : ℕ) (s : List ℕ) (o : Option Read) (r : Read) → Shorter s o → up_to m o ≡ some r → length r.rest < length s
up_to_shorter m s none r h e = nothing r e
up_to_shorter m s (some q) r h e = cond_yes (leb q.number m) (some q) r e (λ b p. let z : q ≡ r = cc in rw (← z) h)

read_shorter : (m : ℕ) (s : List ℕ) (r : Read) → read_groups m s ≡ some r → length r.rest < length s
unfolding read_groups
read_shorter m s r e = up_to_shorter m s (any_groups 0 s) r (any_shorter 0 s) e

payment-long : (v : List ℕ) (p : Payment) → read_payment v ≡ some p → 3 ≤ length v
unfolding read_payment
payment-long v p e =
    or_else_some (read_groups most_u32 v) _ p e
    (λ h eh kh. or_else_some (read_groups most_u32 h.rest) _ p kh
    (λ r er kr. or_else_some (read_groups most_u32 r.rest) _ p kr
    (λ a ea ka. omega (arith, read_shorter most_u32 v h eh, read_shorter most_u32 h.rest r er, read_shorter most_u32 r.rest a ea))))

tlv-long : (t : List ℕ) (p : Payment) → Whole t → read_payment (value_of t) ≡ some p → 8 ≤ length t
unfolding value_of size_of
tlv-long t p w e =
    let l : 3 ≤ length (take (length_of t) (drop 4 t)) = payment-long (value_of t) p e in
    omega (arith, w.size, length-take (length_of t) (drop 4 t))

wholes_readable : (ts : List (List ℕ)) → Wholes ts → 8 * length (readable (keep is_payment ts)) ≤ length (join_all ts)
unfolding readable
wholes_readable [] w = omega arith
wholes_readable (t ∷ ts) w =
    let l = length-append t (join_all ts) in
    let ih : 8 * length (readable (keep is_payment ts)) ≤ length (join_all ts) = wholes_readable ts w.1 in
    by_test (is_payment t)
    (λ b. rw b
    (by_option (read_payment (value_of t))
    (λ e. rw e (omega arith))
    (λ p e. rw e (omega (arith, tlv-long t p w.0 e)))))
    (λ b. rw b (omega arith))

-- readable payments of a node, and of nodes
data_readable : (d : List ℕ) → good data_limit d ≡ true → 8 * length (readable (payments_of d)) ≤ data_limit
data_readable d g =
    let r = good-row data_limit d g in
    omega (arith, wholes_readable (tlvs d) (tlvs-whole d r), ap length (tlvs-joined d r), good-fits data_limit d g)

pub nodes-readable : (t : List Entry) → AllGood t → 8 * length (readable (payments_in (statements t))) ≤ data_limit * length t
unfolding payments_in readable
nodes-readable [] h = omega arith
nodes-readable (e ∷ t) h =
    let ps = payments_of e.says.node_data in
    let qs = payments_in (statements t) in
    omega (arith, ap length (readable_append ps qs), length-append (readable ps) (readable qs), data_readable e.says.node_data h.0, nodes-readable t h.1)
