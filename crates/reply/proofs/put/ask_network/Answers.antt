use borrow.Author.Rules.{rules}
use mathlib.Core.Path.{◌∙◌}
use mathlib.Core.List.{append-nil}
use Rattle.reply.proofs.Replies.{replied_as}
use Rattle.reply.proofs.Asking.{progress_early, progress_left_out, progress_asked}
use Rattle.reply.proofs.put.ask_network.Goals as goal

pub returns-then-c-d : goal.returns-then-c-d
returns-then-c-d c =
    progress_early c.args.c c.requires.1.1.1.0 c.requires.1.1.1.1 c.args.d c.args.room.now c.requires.0.used c.if-c-d.true

pub reply-v-requires : goal.reply-v-requires
reply-v-requires c =
    (c.requires.0, (c.requires.1.0, search rules))

pub returns-then-v-d : goal.returns-then-v-d
returns-then-v-d c =
    progress_left_out c.args.c c.requires.1.1.1.0 c.requires.1.1.1.1 c.args.d c.args.room.now c.if-c-d.false c.reply-v.result _
    (replied_as c.reply-v.ensures (append-nil c.request_network_tlv-tlv.result ∙ c.request_network_tlv-tlv.ensures)) c.if-v-d.true

pub returns : goal.returns
returns c =
    progress_asked c.args.c c.requires.1.1.1.0 c.requires.1.1.1.1 c.args.d c.args.room.now c.if-c-d.false c.reply-v.result _
    (replied_as c.reply-v.ensures (append-nil c.request_network_tlv-tlv.result ∙ c.request_network_tlv-tlv.ensures)) c.if-v-d.false
