-- All is cleared, and the four numbers of the header are written.
use Rattle.startup.proofs.Fresh.{fresh-written}
use borrow.Author.Rules.{rules}
use Rattle.startup.proofs.write_fresh.Goals as goal

pub returns : goal.returns
returns c =
    let store-u323 = c.store_u32-3 in
    let store-u322 = c.store_u32-2 in
    let store-u32 = c.store_u32 in
    let clear = c.clear in
    let args = c.args in
    rw (c.store_u32-4.ensures, store-u323.ensures, store-u322.ensures, store-u32.ensures, clear.ensures)
    (fresh-written args.s.now args.read args.write (search rules))
