use native.Mathlib.Omega.{arith}
use Rattle.reply.proofs.Replies.{replied_as}
use Rattle.reply.proofs.States.{front_fits, front-whole, front-room, data_room}
use Rattle.reply.proofs.Answers.{markable_readable}
use Rattle.reply.proofs.tell.tell_node.Goals as goal

pub node_state_front-front-requires : goal.node_state_front-front-requires
node_state_front-front-requires c =
    front_fits c.args.c.clock c.args.t c.args.mem.now (markable_readable c.requires.0.marks) c.args.i c.requires.1 c.meta_at-e.result c.meta_at-e.ensures c.meta_at-e.result.len c.meta_at-e.ensures.short

pub reply-requires : goal.reply-requires
reply-requires c =
    let g = markable_readable c.requires.0.marks in (
      c.requires.0.writable,
      (
        omega (arith, c.requires.0.omitted),
        front-room c.args.c.clock c.args.t c.args.mem.now g c.args.i c.requires.1 c.meta_at-e.result c.meta_at-e.ensures c.node_state_front-front.result c.data_of.result.now c.meta_at-e.result.len c.node_state_front-front.ensures
            (data_room c.args.c.clock c.args.t c.args.mem.now g c.args.i c.requires.1 c.meta_at-e.result c.meta_at-e.ensures c.data_of.result.now c.data_of.ensures.0),
      ),
    )

pub returns : goal.returns
returns c =
    replied_as c.reply.ensures
    (front-whole c.args.c.clock c.args.t c.args.mem.now (markable_readable c.requires.0.marks) c.args.i c.requires.1 c.meta_at-e.result c.meta_at-e.ensures _ _ c.node_state_front-front.ensures c.data_of.ensures.0)
