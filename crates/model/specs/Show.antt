-- The calls that only show: the reachable set with its last level and the network digest, and one node's data (document 01, Payments; What the promises
-- must carry; document 02, How far does marking go?). Assumes nothing.
use Rattle.std.specs.Prelude.{ℕ, cond, List, [], ◌∷◌, map, replicate, ◌==◌}
use Rattle.base.specs.Lists.{or_else}
use Rattle.model.specs.Table.{Entry, look, id_of}
use Rattle.model.specs.Reach.{last_level, reached}
use Rattle.model.specs.Digest.{network_digest}
use Rattle.model.specs.State.{State}
use Rattle.model.specs.Refusals.{first_of, late, back, small_table, no_such_node}

-- identifiers of the reachable nodes, ascending, the number of the last level, and the network digest
pub record Marks : Type 0 where
  pub number : ℕ
  pub nodes : List ℕ
  pub last_level : ℕ
  pub digest : List ℕ

-- "Let the marking report the number of its last ring"
abbrev pub marked_at : ℕ → ℕ → List Entry → Marks
marked_at own clock t = record { number = 0; nodes = map id_of (reached own clock t); last_level = last_level own clock t; digest = network_digest own clock t }

-- a refusal has its number alone
abbrev pub not_marked : ℕ → Marks
not_marked n = record { number = n; nodes = []; last_level = 0; digest = replicate 16 0 }

abbrev pub refusal_marks : ℕ → ℕ → State → ℕ
refusal_marks clock table s = first_of (late clock ∷ back clock s ∷ small_table table ∷ [])

unfoldable pub marks : ℕ → ℕ → State → Marks
marks clock table s = let n : ℕ = refusal_marks clock table s in cond (n == 0) (marked_at s.own clock s.table) (not_marked n)

abbrev pub refusal_show : ℕ → ℕ → State → ℕ
refusal_show n table s = first_of (small_table table ∷ no_such_node n s ∷ [])

-- "A refusal shows an empty part; a second call gives its number"
unfoldable pub shown : ℕ → ℕ → State → List ℕ
shown n table s = cond (refusal_show n table s == 0) (or_else (look n s.table) [] (λ e. e.says.node_data)) []
