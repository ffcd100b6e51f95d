-- A record's part: an accepted surface has as many entries of k as of eta, 471 or fewer, and its part is as long as their number says
-- (`counted`); its first bytes fit (`code_small`, `flag_byte`); four puts, each behind the one before, fill it (`part_put`).
use Rattle.std.proofs.Common.{◌≡◌, ℕ, ◌+◌, ◌*◌, ◌≤◌, Bool, true, false, List, ◌++◌, length, take, arith, refl, ◌∙◌, leb→le, length-append}
use mir.Val.{bool_byte}
use Rattle.numbers.specs.Refusal.{accepted}
use Rattle.optics.specs.declared.microfacet.{Kind.Kind}
use Rattle.optics.specs.Surface.{air, kind_code}
use Rattle.book.specs.Bytes.{double, doubles, put}
use Rattle.book.specs.Layout.{step_for, part_length}
use Rattle.book.specs.Surfaces.{BookSurface, flag_of, part_bytes, check_read, check_written}
use Rattle.book.specs.Record.{Record, surface_of, offered}
use Rattle.book.proofs.Doubles.{length-double, length-doubles}
use Rattle.book.proofs.Surfaces.{accepted_of, read_of_written, kind_small, k_entries, entries_back, length-part}
use Rattle.book.proofs.Records.{samples_most}
use Rattle.book.proofs.bytes.Sets.{behind, full}

pub record Counted (s : BookSurface) : Type 0 where
  pub within : length s.eta ≤ 471
  pub as_many : length s.k ≡ length s.eta
  pub part : length (part_bytes s) ≡ 11 + 16 * length s.eta

pub counted : (r : Record) → check_written (offered r) ≡ accepted → Counted (surface_of r)
unfolding check_read offered part_length
counted r ok =
    let s = surface_of r in
    let read = read_of_written (offered r) ok in
    let h = accepted_of s air read in
    record { within = rw (← entries_back s h) (samples_most (step_for (length s.eta))); as_many = k_entries s h; part = length-part s read }

-- ---- its first bytes
pub code_small : (kind : Kind) → kind_code kind ≤ 1
code_small kind = leb→le (kind_code kind) 1 (kind_small kind)

pub flag_byte : (flag : Bool) → bool_byte flag ≡ flag_of flag
unfolding flag_of
flag_byte true = refl
flag_byte false = refl

-- four puts, each behind the one before, fill a part
pub part_put : (s : BookSurface) (d one two three four : List ℕ) → length d ≡ length (part_bytes s)
    → one ≡ put d 0 (take 3 (part_bytes s)) → two ≡ put one 3 (double s.given)
    → three ≡ put two 11 (doubles s.eta) → four ≡ put three (11 + 8 * length s.eta) (doubles s.k)
    → four ≡ part_bytes s
unfolding part_bytes
part_put s d one two three four room a b c e =
    let head = take 3 (part_bytes s) in
    let x = double s.given in
    let eta = doubles s.eta in
    let k = doubles s.k in
    let lx = length-double s.given in
    let leta = length-doubles s.eta in
    let lk = length-doubles s.k in
    let lxe = length-append x eta in
    let all = length-append (x ++ eta) k in
    let second = behind d one two head x 0 3 a b refl (omega arith) in
    let third = behind d two three (head ++ x) eta 0 11 second c (omega arith) (omega arith) in
    behind d three four (head ++ x ++ eta) k 0 (11 + 8 * length s.eta) third e (omega arith) (omega arith) ∙ full d (part_bytes s) (omega arith)
