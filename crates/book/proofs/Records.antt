-- A surface stored in a record is the surface that the record offers, where its spectra have their places (`surface_back`), and it is offered in air (`offered_back`).
-- Each entry is found at its place, and a code is that of the kind that it was made of.
use Rattle.std.proofs.Common.{◌≡◌, refl, sym, ap₂, ◌∙◌, ℕ, ◌+◌, ◌*◌, ◌≤◌, arith, Bool, true, false, not, cond, ◌==◌, le-leb, List, [], ◌∷◌, map, length, take_at, drop, replicate, Float}
use Rattle.std.proofs.lemmas.List.{length-replicate}
use lib.Ieee.Bits.{is_true}
use Rattle.floats.specs.Float.{f1}
use Rattle.optics.specs.Surface.{roughness_of}
use Rattle.book.specs.Layout.{step_byte, samples_of}
use Rattle.book.specs.Surfaces.{BookSurface, flag_of, surface_in}
use Rattle.book.specs.Record.{laid, entries_in, surface_of, offered, record_of}
use Rattle.book.specs.RoundTrips.{offered_in_air}
use Rattle.book.proofs.Doubles.{length-doubles_in}
use Rattle.book.proofs.Surfaces.{kind_back, kind_small}

pub laid_back : (xs : List Float) (n : ℕ) → length xs ≡ n → n ≤ 471 → entries_in n (laid xs) ≡ xs
unfolding entries_in laid
laid_back xs n e room = rw (le-leb n 471 room) (take_at xs _ n e)

pub flag_kept : (flag : Bool) → not (flag_of flag == 0) ≡ flag
unfolding flag_of
flag_kept false = refl
flag_kept true = refl

pub samples_most : (step : ℕ) → samples_of step ≤ 471
unfolding samples_of
samples_most step = go (step == 1)
  where
    go : (b : Bool) → cond b 471 95 ≤ 471
    go true = omega arith
    go false = omega arith

pub surface_back : (s : BookSurface) → length s.eta ≤ 471 → length s.k ≡ length s.eta → surface_of (record_of s) ≡ s
unfolding surface_of record_of roughness_of
surface_back s room same =
    rw (kind_back s.kind, flag_kept s.two_sided, is_true _ (kind_small s.kind), laid_back s.eta (length s.eta) refl room, laid_back s.k (length s.eta) same room) refl

pub offered_back : (s : BookSurface) → length s.eta ≤ 471 → length s.k ≡ length s.eta → offered (record_of s) ≡ offered_in_air s
unfolding offered record_of
offered_back s room same =
    let n = length s.eta in
    rw (surface_back s room same, laid_back (replicate n f1) n (length-replicate n f1) room) refl

-- ---- of any part: its spectra are tables of one spacing
pub part_offered : (p : List ℕ) → offered (record_of (surface_in p)) ≡ offered_in_air (surface_in p)
unfolding surface_in
part_offered p =
    let n = samples_of (step_byte p) in
    let eta = length-doubles_in n (drop 11 p) in
    let k = length-doubles_in n (drop (11 + 8 * n) p) in
    offered_back (surface_in p) (rw eta (samples_most (step_byte p))) (k ∙ sym eta)

pub parts_offered : (ps : List (List ℕ)) → map offered (map record_of (map surface_in ps)) ≡ map offered_in_air (map surface_in ps)
parts_offered [] = refl
parts_offered (p ∷ ps) = ap₂ ◌∷◌ (part_offered p) (parts_offered ps)
