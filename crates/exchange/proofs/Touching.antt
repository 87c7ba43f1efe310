-- The last contact over the model: once is as often as it takes, and it can be set after the digest counts. Assumes nothing.
use mathlib.Core.Path.{◌≡◌, refl, sym, ap, ◌∙◌}
use mathlib.Core.Bool.{false}
use mathlib.Core.List.{List, [], ◌∷◌, map}
use mathlib.Core.Option.{some}
use Prim.Native.Nat.{ℕ}
use Rattle.base.proofs.Tests.{by_test}
use Rattle.base.proofs.Options.{by_option}
use Rattle.model.specs.State.{Peer, with_peers, is_peer, contacted}
use Rattle.model.specs.Handle.{Context, Sender, Work, with_state, touch_by, touch, count_equal, on_equal}
use Rattle.model.proofs.Cases.{touch-none, touch-some, equal_multicast}

module _ (n theirs ours clock : ℕ) where
  contacted-twice : (p : Peer) → contacted n theirs ours clock (contacted n theirs ours clock p) ≡ contacted n theirs ours clock p
  contacted-twice p = by_test (is_peer n theirs ours p) (λ e. rw (e, e)) (λ e. rw (e, e))

  all-twice : (ps : List Peer) → map (contacted n theirs ours clock) (map (contacted n theirs ours clock) ps) ≡ map (contacted n theirs ours clock) ps
  all-twice [] = refl
  all-twice (p ∷ ps) =
      ap (λ (q : Peer). q ∷ map (contacted n theirs ours clock) (map (contacted n theirs ours clock) ps)) (contacted-twice p)
      ∙ ap (λ (qs : List Peer). contacted n theirs ours clock p ∷ qs) (all-twice ps)

module _ (c : Context) (w : Work) where
  touched-twice : (f : Sender) → w.sender ≡ some f → touch c (touch c w) ≡ touch c w
  touched-twice f e =
      ap (touch c) (touch-some c w f e) ∙ touch-some c (with_state (touch_by c f w.state) w) f e
      ∙ ap (λ (ps : List Peer). with_state (with_peers ps w.state) w) (all-twice f.node f.endpoint c.endpoint c.clock w.state.peers)
      ∙ sym (touch-some c w f e)

  pub touch-twice : touch c (touch c w) ≡ touch c w
  touch-twice = by_option w.sender (λ e. ap (touch c) (touch-none c w e)) touched-twice

  -- with an equal digest over multicast
  pub equal_late : c.unicast ≡ false → on_equal c w ≡ touch c (with_state (count_equal c w.state) w)
  equal_late u =
      equal_multicast c w u
      ∙ by_option w.sender
      (λ e. ap (λ (x : Work). with_state (count_equal c x.state) x) (touch-none c w e) ∙ sym (touch-none c (with_state (count_equal c w.state) w) e))
      (λ f e. ap (λ (x : Work). with_state (count_equal c x.state) x) (touch-some c w f e) ∙ sym (touch-some c (with_state (count_equal c w.state) w) f e))
