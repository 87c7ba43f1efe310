-- What the session keeps between lines, as far as the calls' one premise and every bound ask for it. Assumes nothing.
use Rattle.std.specs.Prelude.{◌≡◌, List, ℕ, ◌≤◌, ◌<◌, length}
use Rattle.model.specs.Figures.{table_bytes}
use Rattle.node.specs.declared.State.{State}
use Rattle.ledger.specs.Promises.{AsLeft}
use Rattle.sessions.specs.declared.session.Session.{Session}

-- A call on the memory m has left the memory m' and the state r: the premise again, and nothing has changed where the memory is too small for any call.
pub record Goes (s : State) (m : List ℕ) (r : State) (m' : List ℕ) : Type 0 where
  pub left : AsLeft r m'
  pub size : length m' ≡ length m
  pub small : length m < table_bytes → (r ≡ s) × (m' ≡ m)

-- the session between lines
pub record Running (x : Session) : Type 0 where
  pub left : AsLeft x.state x.memory
  pub wide : 40000 ≤ length x.memory
  pub room : 40000 ≤ length x.saved
  pub table : x.table ≤ 40000
  pub reply : x.reply ≤ 5000
  pub snapshot : x.snapshot ≤ 40000
  pub kept : x.kept ≤ 40000
