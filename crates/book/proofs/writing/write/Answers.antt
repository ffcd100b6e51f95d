-- `writing::write` writes where the book has room: by hand, so that another test shows two sides.
use Rattle.std.proofs.Common.{◌≡◌, length, leb, rules}
use Rattle.numbers.specs.Refusal.{accepted, refuse, number}
use Rattle.book.proofs.writing.write.Goals as goal

pub put_book-requires-clause-room : goal.put_book-requires-clause-room
unfolding number
put_book-requires-clause-room c =
    let room : accepted ≡ refuse 14 (leb c.in_ok-size.size.bytes (length c.args.buf.now)) = c.in_ok-refuse.ensures in
    search rules
