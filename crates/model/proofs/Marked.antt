-- What document 01 gives by example, computed from the definitions: the 13 marked examples, and a session in miniature. Assumes nothing.
use Rattle.std.proofs.Common.{refl}
use Rattle.base.specs.Sorted.{find, insert}
use Rattle.sha256.specs.Sha256.{k_table, zeros, pad, word_at, block_at, initial, next_word, extend, schedule, round_of, rounds, compress, hash, hash_value, sha256, hash16}
use Rattle.wire.specs.Row.{type_of, length_of, value_of, size_of, heads, row_of, row, is_row, tlvs, encode}
use Rattle.wire.specs.Order.{before, climbs, ascending, good, place, among}
use Rattle.wire.specs.Groups.{groups_of, groups, any_groups, read_groups}
use Rattle.wire.specs.Payment.{unfolded, payment_value, payment_tlv, ended, read_payment}
use Rattle.model.specs.Sequence.{offset, older, advance}
use Rattle.model.specs.Table.{look, put}
use Rattle.model.specs.Reach.{links, joined, touched, levels_from, levels, met, marked, in_reach, reached}
use Rattle.model.specs.Digest.{digest_of, network_digest}
use Rattle.model.specs.Trickle.{fresh, spend, reset, event}
use Rattle.model.specs.State.{own_entry, publish_as, peer_tlv, with_tlv, reset_all, settle}
use Rattle.model.specs.Messages.{state_head}
use Rattle.model.specs.Decide.{received_of, with_data, wanted_new, wanted_held, differs, decide, after}
use Rattle.model.specs.Handle.{piece, reply, replies, ask_network, touch, on_request_network, on_request_node, add_peer, greet, on_stranger, on_endpoint, on_equal, on_network, on_own_state, on_state, carry_out, on_tlv, one_tlv, all_tlvs}
use Rattle.model.specs.Begin.{started, begun}
use Rattle.model.specs.Receive.{handled, receive}
use Rattle.model.specs.Tick.{interval_in, interval_of, goes, without_peers, drop_silent, endpoint_event, ticked, tick}
use Rattle.model.specs.KeepAlive.{keep_alive_tlv, with_keep_alive, with_choice, chosen, keep_alive}
use Rattle.model.specs.Pay.{paid, pay}
use Rattle.model.specs.Totals.{payments_in, readable, unreadable, total_of, sum_of, total}
use Rattle.model.specs.Show.{shown}
use Rattle.model.specs.Snapshot.{save_entry, saved, reads, load_entries, load, republished, resumed, resume}
use Rattle.model.specs.Examples.{examples, edges, Session}
use Rattle.model.specs.Theorems.{MarkedExamples}

pub marked-examples : MarkedExamples
unfolding examples offset older groups_of groups any_groups read_groups encode payment_value payment_tlv peer_tlv type_of length_of value_of size_of heads row_of row tlvs links joined touched levels_from levels met marked in_reach
marked-examples = record { hold = refl; number = refl }

pub session : Session
unfolding edges find insert k_table zeros pad word_at block_at initial next_word extend schedule round_of rounds compress hash hash_value sha256 hash16 type_of length_of value_of size_of heads row_of row is_row tlvs encode before climbs ascending good place among groups_of groups any_groups read_groups unfolded payment_value payment_tlv ended read_payment offset older advance look put links joined touched levels_from levels met marked in_reach reached digest_of network_digest fresh spend reset event own_entry publish_as peer_tlv with_tlv reset_all settle state_head received_of with_data wanted_new wanted_held differs decide after piece reply replies ask_network touch on_request_network on_request_node add_peer greet on_stranger on_endpoint on_equal on_network on_own_state on_state carry_out on_tlv one_tlv all_tlvs started begun handled receive interval_in interval_of goes without_peers drop_silent endpoint_event ticked tick keep_alive_tlv with_keep_alive with_choice chosen keep_alive paid pay payments_in readable unreadable total_of sum_of total shown save_entry saved reads load_entries load republished resumed resume
session =
    record {
      figures = refl;
      multicast = refl;
      held = refl;
      written = refl;
      peers = refl;
      unicast = refl;
      taken = refl;
      served = refl;
      empty = refl;
      unserved = refl;
      requested = refl;
      mismatched = refl;
      differing = refl;
      reclaimed = refl;
      refused = refl;
      silent = refl;
      elsewhere = refl;
      gone = refl;
      interval = refl;
      usual = refl;
      own = refl;
      all = refl;
      own_zero = refl;
      all_zero = refl;
      stays = refl;
      delays = refl;
      early = refl;
      alive = refl;
      chosen = refl;
      unchanged = refl;
      unchosen = refl;
      old = refl;
      renewed = refl;
      paid = refl;
      before = refl;
      after = refl;
      twice = refl;
      seen = refl;
      unknown = refl;
      resumed = refl;
      unasked = refl;
      lonely = refl;
      from_end = refl;
      from_middle = refl;
      cut_off = refl;
      too_old = refl;
      shortcut = refl;
      sampled = refl;
    }
