use borrow.Author.Rules.{rules}
use mathlib.Core.Path.{◌∙◌}
use mathlib.Core.List.{[], ◌++◌, append-nil}
use native.Mathlib.Omega.{arith}
use Rattle.reply.proofs.Answers.{digest_wide, states-asked, network_listed}
use Rattle.reply.proofs.tell.tell_network.Goals as goal

pub network_tlv-tlv-requires : goal.network_tlv-tlv-requires
network_tlv-tlv-requires c = digest_wide (c.requires.0.marks.cached c.unwrap-reached.result c.unwrap-reached.ensures)

pub reply-v-requires : goal.reply-v-requires
reply-v-requires c =
    (c.requires.0.writable, (omega (arith, c.requires.0.omitted), search rules))

pub reply_states-requires : goal.reply_states-requires
reply_states-requires c =
    states-asked c.unwrap-reached.result (c.network_tlv-tlv.result ++ []) c.reply-v.ensures c.requires.0 c.unwrap-reached.ensures

pub returns : goal.returns
returns c =
    network_listed c.unwrap-reached.result (c.network_tlv-tlv.result ++ []) c.reply-v.ensures c.unwrap-reached.ensures (append-nil c.network_tlv-tlv.result ∙ c.network_tlv-tlv.ensures) c.reply_states.ensures
