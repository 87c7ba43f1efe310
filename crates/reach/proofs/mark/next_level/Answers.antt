use native.Mathlib.Omega.{arith}
use mathlib.Core.Path.{sym, ap, ◌∙◌}
use mathlib.Core.Bool.{not}
use Rattle.table.proofs.Tables.{view-length}
use Rattle.reach.proofs.Nodes.{few-nodes, held, legible_at, leads_at_lem}
use Rattle.reach.proofs.Nexts.{tried_none, tried_all, tried_out, tried_in, tried_on, trying_met, trying_unled, trying_led}
use Rattle.reach.proofs.mark.next_level.Goals as goal
use Rattle.reach.proofs.mark.next_level.Goals.{then-level-r+else-loop-v-test, else-level-r}
use Rattle.reach.proofs.mark.next_level.Goals.{then-not-met-v+then-is_leading, else-not-met-v, else-not-met-v-via-then-not-met-v+else-is_leading, else-not-met-v-via-else-not-met-v}

pub loop-r-init : goal.loop-r-init
loop-r-init c =
    tried_none _ _ _ _

pub loop-v-init : goal.loop-v-init
loop-v-init c =
    tried_in _ _ _ _ c.loop-r.r (held c.args.t c.args.mem.now c.requires.kept.arranged c.loop-r.r c.loop-r-test.true) _ c.loop-r.invariant

pub is_leading-requires : goal.is_leading-requires
is_leading-requires c =
    (legible_at _ _ _ c.requires c.loop-r.r c.loop-r-test.true, legible_at _ _ _ c.requires c.loop-v.v c.loop-v-test.true)

pub loop-v-preserved : goal.loop-v-preserved
loop-v-preserved c =
    let p = held c.args.t c.args.mem.now c.requires.kept.arranged c.loop-r.r c.loop-r-test.true in
    let q = held c.args.t c.args.mem.now c.requires.kept.arranged c.loop-v.v c.loop-v-test.true in
    let at = leads_at_lem c.args.clock c.args.t c.args.mem.now c.requires c.loop-r.r c.loop-v.v c.loop-r-test.true c.loop-v-test.true in
    elim c.if-not-met-v.branch [
      | then-not-met-v+then-is_leading b ↦ rw b.next-is
          (trying_led _ _ _ _ c.loop-r.r p c.if-level-r.true c.loop-v.v q c.loop-v.next c.loop-v.invariant (few-nodes c.args.t c.args.mem.now c.requires.kept.arranged) (ap not b.if-not-met-v.true) (sym at ∙ sym b.is_leading.ensures ∙ b.if-is_leading.true))
      | else-not-met-v b ↦ rw b.next-is
          (elim b.else-not-met-v.branch [
            | else-not-met-v-via-then-not-met-v+else-is_leading w ↦ trying_unled _ _ _ _ c.loop-r.r p c.if-level-r.true c.loop-v.v q c.loop-v.next c.loop-v.invariant (sym at ∙ sym w.is_leading.ensures ∙ w.if-is_leading.false)
            | else-not-met-v-via-else-not-met-v w ↦ trying_met _ _ _ _ c.loop-r.r p c.if-level-r.true c.loop-v.v q c.loop-v.next c.loop-v.invariant (ap not w.if-not-met-v.false)
          ])
    ]

pub loop-r-preserved : goal.loop-r-preserved
loop-r-preserved c =
    let p = held c.args.t c.args.mem.now c.requires.kept.arranged c.loop-r.r c.loop-r-test.true in
    elim c.if-level-r.branch [
      | then-level-r+else-loop-v-test b ↦ rw b.next-is (tried_on _ _ _ _ c.loop-r.r p b.loop-v.v b.loop-v.next b.loop-v.invariant (omega (arith, b.loop-v-test.false, view-length c.args.t c.requires.kept.arranged c.args.mem.now)))
      | else-level-r b ↦ rw b.next-is (tried_out _ _ _ _ c.loop-r.r p c.loop-r.next c.loop-r.invariant b.if-level-r.false)
    ]

pub returns : goal.returns
returns c =
    tried_all _ _ _ _ c.loop-r.r _ c.loop-r.invariant (omega (arith, c.loop-r-test.false, view-length c.args.t c.requires.kept.arranged c.args.mem.now))
