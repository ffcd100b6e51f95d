-- What places hold after the entries of a line were read to them: those that are kept of it (`kept_read`), or what is wrong (`kept_wrong`); after they were filled (`filled`); what they lend (`lent`).
use Rattle.std.proofs.Common.{◌≡◌, ℕ, ◌≤◌, Option, Some, None, Bor, unwrap_or, [], Result, Ok, Err, List, length, take, drop, ◌++◌, replicate, take_at, min, le-leb, arith, ap, Float}
use Rattle.std.specs.List.{PartBy}
use Rattle.std.proofs.lemmas.Grind.{common_steps}
use Rattle.std.proofs.lemmas.List.{take_min, length-take, length-replicate}
use Rattle.text.specs.declared.faults.Fault.{Fault}
use Rattle.text.specs.Line.{Left, read_entries, entries, with_entries, put_first, checked_until, spectrum_ends, and_then}
use Rattle.jobs.specs.Surface.{entries_of, kept}

front : (xs values : List Float) (n : ℕ) → length values ≡ 472 → n ≡ min (length xs) (length values)
    → entries_of (record { values = put_first xs values; count = n }) ≡ take 472 xs
unfolding entries_of
front xs values n long is =
    let room : n ≤ 472 = omega arith in
    let whole : length (take n xs) ≡ n = omega (arith, length-take n xs) in
    let least : min 472 (length xs) ≡ n = omega arith in
    rw (← is, le-leb n 472 room, take_at (take n xs) (drop n values) n whole) (rw (← least) (take_min 472 xs))

pub kept_read : (l : Left) (values : List Float) (n : ℕ) → length values ≡ 472 → Ok n ≡ entries (length values) l
    → Ok (entries_of (record { values = with_entries values l; count = n })) ≡ kept l
unfolding entries with_entries kept
kept_read l values n long is = go (checked_until spectrum_ends (length l.rest) l) is
  where
    xs : List Float
    xs = read_entries l

    go : (r : Result (Unit {0}) Fault) → Ok n ≡ and_then r (λ done. Ok (min (length xs) (length values)))
        → Ok (entries_of (record { values = put_first xs values; count = n })) ≡ and_then r (λ done. Ok (take 472 xs))
    go (Ok done) e = ap Ok (front xs values n long cc)
    go (Err f) e = absurd cc

pub kept_wrong : (l : Left) (n : ℕ) (f : Fault) → Err f ≡ entries n l → Err f ≡ kept l
unfolding entries kept
kept_wrong l n f is = go (checked_until spectrum_ends (length l.rest) l) is
  where
    go : (r : Result (Unit {0}) Fault) → Err f ≡ and_then r (λ done. Ok (min (length (read_entries l)) n))
        → Err f ≡ and_then r (λ done. Ok (take 472 (read_entries l)))
    go (Ok done) e = absurd cc
    go (Err g) e = cc

-- after so many values were filled
pub filled : (n : ℕ) (values ys rest : List Float) (x : Float) → length values ≡ 472 → n ≤ 472 → ys ≡ replicate (length (take n values)) x
    → entries_of (record { values = ys ++ rest; count = n }) ≡ replicate n x
unfolding entries_of
filled n values ys rest x long room is =
    let whole : length (take n values) ≡ n = omega (arith, length-take n values) in
    rw (le-leb n 472 room, is, whole) (take_at (replicate n x) rest n (length-replicate n x))

-- those that are lent, and none where the number is above the places'
pub lent : (values : List Float) (n : ℕ) (r : Option (Bor (List Float))) (none : Bor (List Float)) → length values ≡ 472 → none.now ≡ []
    → PartBy (λ (x : Bor (List Float)). x.now) values 0 n r → (unwrap_or r none).now ≡ entries_of (record { values = values; count = n })
unfolding entries_of
lent values n None none long is h = grind (arith, common_steps)
lent values n (Some x) none long is h = grind (arith, common_steps)
