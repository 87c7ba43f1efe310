-- The state to start from. Assumes nothing.
use mathlib.Core.Path.{◌≡◌, refl, sym, ap, subst, ◌∙◌}
use mathlib.Core.List.{List, [], ◌∷◌, ◌++◌}
use Prim.Native.Nat.{ℕ}
use native.Mathlib.Omega.{arith}
use lib.ListN.{length}
use Rattle.base.specs.Bytes.{big32}
use Rattle.sha256.specs.Sha256.{k_table, zeros, pad, word_at, block_at, initial, next_word, extend, schedule, round_of, rounds, compress, hash, hash_value, sha256, hash16}
use Rattle.model.specs.Table.{entry_of, anew}
use Rattle.model.specs.Digest.{network_digest}
use Rattle.model.specs.Begin.{fresh_endpoints, started, begun, blank}
use Rattle.model.specs.Invariant.{Valid}
use Rattle.model.proofs.Kept.{invariant_kept}
use Rattle.model.proofs.ReadBack.{states_read_back}
use Rattle.table.specs.declared.Entry.{Entry as Meta}
use Rattle.table.specs.View.{view}
use Rattle.node.specs.declared.State.{State}
use Rattle.node.specs.declared.Endpoint.{Endpoint}
use Rattle.node.specs.declared.peers.Peers.{Peers}
use Rattle.node.specs.View.{peers_of, endpoints_of, state_of, PeersRep}
use Rattle.ledger.specs.Promises.{AsLeft}

abbrev empty_hash : List ℕ
empty_hash = 227 ∷ 176 ∷ 196 ∷ 66 ∷ 152 ∷ 252 ∷ 28 ∷ 20 ∷ 154 ∷ 251 ∷ 244 ∷ 200 ∷ 153 ∷ 111 ∷ 185 ∷ 36 ∷ []

abbrev alone_digest : List ℕ
alone_digest = 20 ∷ 218 ∷ 188 ∷ 59 ∷ 185 ∷ 71 ∷ 48 ∷ 173 ∷ 102 ∷ 239 ∷ 62 ∷ 236 ∷ 126 ∷ 227 ∷ 206 ∷ 251 ∷ []

-- both by computing the digest
empty-hash : hash16 [] ≡ empty_hash
unfolding k_table zeros pad word_at block_at initial next_word extend schedule round_of rounds compress hash hash_value sha256 hash16
empty-hash = refl

zero-hash : hash16 (big32 0 ++ empty_hash) ≡ alone_digest
unfolding k_table zeros pad word_at block_at initial next_word extend schedule round_of rounds compress hash hash_value sha256 hash16
zero-hash = refl

alone-digest : network_digest 0 0 (entry_of 0 0 [] (anew 0) ∷ []) ≡ alone_digest
alone-digest = states_read_back.alone 0 0 (entry_of 0 0 [] (anew 0)) refl ∙ ap (λ (h : List ℕ). hash16 (big32 0 ++ h)) empty-hash ∙ zero-hash

-- node 0 with no data, whatever stands in the places that do not count
abbrev first : List Meta → Peers → List Endpoint → State
first l p es =
    record {
      own = 0;
      last = 0;
      table = record { count = 1; entries = record { id = 0; seq = 0; age = 0; len = 0; slot = 0; since = 0; hash = empty_hash } ∷ l };
      peers = p;
      endpoints = es;
      digest = alone_digest;
    }

module _ (l : List Meta) (p : Peers) (es : List Endpoint) (m : List ℕ) (none : peers_of p ≡ []) (fresh : endpoints_of es ≡ fresh_endpoints 0 (0 ∷ 0 ∷ 0 ∷ 0 ∷ [])) where
  is-blank : state_of (first l p es) m ≡ blank
  unfolding state_of view blank begun started
  is-blank = rw (alone-digest, none, fresh) refl

  pub blank-left : length l ≡ 31 → PeersRep p → length es ≡ 4 → AsLeft (first l p es) m × (state_of (first l p es) m ≡ blank)
  blank-left n k four = (
    record {
      arranged = record { most = omega arith; wide = omega arith; ascending = (tt, tt); fit = ((omega arith, omega arith), tt); apart = (tt, tt) };
      peers = k;
      four = four;
      digest = refl;
      hashed = λ room. (sym empty-hash, tt);
      valid = λ room. subst Valid (sym is-blank) invariant_kept.first;
    },
    is-blank,
  )
