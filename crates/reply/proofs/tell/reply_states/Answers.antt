use borrow.Author.Rules.{rules}
use mathlib.Core.List.{[]}
use native.Mathlib.Omega.{arith}
use Rattle.reply.proofs.Replies.{replied_as}
use Rattle.reply.proofs.States.{front_fits, front-short, front-room}
use Rattle.reply.proofs.Answers.{listing_start, listing_stay, listing_on, listing_end}
use Rattle.reply.proofs.tell.reply_states.Goals as goal
use Rattle.reply.proofs.tell.reply_states.Goals.{then-marks-i, else-marks-i}

pub loop-i-init : goal.loop-i-init
loop-i-init c = listing_start c.args.c c.args.t c.args.marks c.args.d c.args.mem.now c.args.room.now c.requires.0.kept.arranged c.requires.1.1.0.used

pub bounds-marks-i : goal.bounds-marks-i
bounds-marks-i c =
    omega (arith, c.requires.1.0.wide, c.requires.0.kept.arranged.most)

pub meta_at-requires : goal.meta_at-requires
meta_at-requires c = (c.requires.0.kept.arranged, search rules)

pub node_state_front-front-requires : goal.node_state_front-front-requires
node_state_front-front-requires c =
    front_fits c.args.c.clock c.args.t c.args.mem.now c.requires.0 c.loop-i.i (omega arith) c.meta_at.result c.meta_at.ensures 0 (omega arith)

pub reply-v-requires : goal.reply-v-requires
reply-v-requires c = (
  record { used = c.loop-i.invariant.used; room = omega (arith, c.loop-i.invariant.room, c.requires.1.1.0.room) },
  (
    omega (arith, c.loop-i-test.true, c.loop-i.invariant.omitted, c.loop-i.invariant.within, c.requires.0.kept.arranged.most, c.requires.1.1.1),
    front-room c.args.c.clock c.args.t c.args.mem.now c.requires.0 c.loop-i.i c.loop-i-test.true c.meta_at.result c.meta_at.ensures c.node_state_front-front.result [] 0 c.node_state_front-front.ensures (omega arith),
  ),
)

pub loop-i-preserved : goal.loop-i-preserved
loop-i-preserved c =
    elim c.if-marks-i.branch [
      | then-marks-i b ↦ rw (b.v-is, b.room-is) (listing_on c.args.c c.args.t c.args.marks c.args.d c.args.mem.now c.args.room.now c.requires.0.kept.arranged c.loop-i.i c.loop-i.v c.loop-i.room c.loop-i.invariant (omega arith) b.if-marks-i.true _ _
          (replied_as b.reply-v.ensures (front-short c.args.c.clock c.args.t c.args.mem.now c.requires.0 c.loop-i.i (omega arith) b.meta_at.result b.meta_at.ensures _ b.node_state_front-front.ensures)))
      | else-marks-i b ↦ rw (b.v-is, b.room-is) (listing_stay c.args.c c.args.t c.args.marks c.args.d c.args.mem.now c.args.room.now c.requires.0.kept.arranged c.loop-i.i c.loop-i.v c.loop-i.room c.loop-i.invariant (omega arith) b.if-marks-i.false)
    ]

pub returns : goal.returns
returns c =
    listing_end c.args.c c.args.t c.args.marks c.args.d c.args.mem.now c.args.room.now c.requires.0.kept.arranged c.loop-i.i c.loop-i.v c.loop-i.room c.loop-i.invariant (omega arith) c.requires.1.0
