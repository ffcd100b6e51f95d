-- Four samples of a spectrum, one for each wavelength of a path (lumo's src/tracer/color.rs, SPECTRUM_SAMPLES = 4). Definitions only.
use Rattle.std.specs.Prelude.{◌≡◌, Bool, ◌&&◌, Float}
pub use Rattle.optics.specs.declared.color.Color.{Color}

abbrev pub color : Float → Float → Float → Float → Color
color a b c d = record { s0 = a; s1 = b; s2 = c; s3 = d }

-- a function of each sample
abbrev pub each : (Float → Float) → Color → Color
each f a = color (f a.s0) (f a.s1) (f a.s2) (f a.s3)

-- a test of each
abbrev pub all4 : (Float → Bool) → Color → Bool
all4 p a = p a.s0 && p a.s1 && p a.s2 && p a.s3

-- ---- what a closure gives at each sample: P says of a call's arguments what it may return
abbrev pub MappedBy : (Float → Float → Type 0) → Color → Color → Type 0
MappedBy P a r = P a.s0 r.s0 × P a.s1 r.s1 × P a.s2 r.s2 × P a.s3 r.s3

abbrev pub ZippedBy : (Float → Float → Float → Type 0) → Color → Color → Color → Type 0
ZippedBy P a b r = P a.s0 b.s0 r.s0 × P a.s1 b.s1 r.s1 × P a.s2 b.s2 r.s2 × P a.s3 b.s3 r.s3

-- a test, which passes where it does of each
abbrev pub TestedBy : (Float → Bool → Type 0) → Color → Bool → Type 0
TestedBy P a passed =
    (p0 : Bool) × P a.s0 p0
    × (p1 : Bool) × P a.s1 p1
    × (p2 : Bool) × P a.s2 p2
    × (p3 : Bool) × P a.s3 p3
    × (passed ≡ (p0 && p1 && p2 && p3))
