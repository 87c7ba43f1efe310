use Rattle.std.proofs.Common.{rules}
use native.Mathlib.Omega.{arith}
use Rattle.text.proofs.Pairs.{hex_none, hex_some}
use Rattle.text.proofs.Puts.{put_one}
use Rattle.text.proofs.hexadecimal.put_hex.Goals as goal

pub bounds-room-at : goal.bounds-room-at
bounds-room-at c = omega (arith, rw (hex_none c.args.d.now (search rules)) at c.requires)

pub returns-then-is_empty : goal.returns-then-is_empty
returns-then-is_empty c = rw (hex_none c.args.d.now (search rules)) (put_one c.args.room.now c.args.at 45 (omega (arith, rw (hex_none c.args.d.now (search rules)) at c.requires)))

pub put_pairs-requires : goal.put_pairs-requires
put_pairs-requires c = rw (hex_some c.args.d.now (search rules)) at c.requires

pub returns : goal.returns
returns c = rw (hex_some c.args.d.now (search rules)) c.put_pairs.ensures
