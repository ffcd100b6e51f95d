-- Two values of binary64 above 0 that are equal are the same one (`same_value`): each is as many units as the other, and that number gives the value.
-- Of 0 it doesn't hold, which has two signs. So a roughness that equals one raised is that one (`same_roughness`).
use Rattle.std.proofs.Common.{◌≡◌, subst, inl, le_antisymm, T, false, Float}
use Rattle.std.proofs.lemmas.Float.{le_of_lt, le_of_eq, le_trans, lt_of_lt_of_le, eq_flip}
use lib.Ieee.{lt, le, eq}
use lib.Ieee.Fits.{and_l, and_r}
use lib.Ieee.Scale.{finite}
use Rattle.floats.proofs.Rounding.Units.{unique, le-finite}
use Rattle.floats.proofs.Rounding.NonNegative.{Fine, fine_of, fine_pos, le_ext, lt-nil_pos}
use Rattle.floats.specs.Float.{f0, f1, decimal, within}
use Rattle.optics.specs.F64.{F64}
use Rattle.optics.specs.Surface.{roughness_min, is_roughness}

pub same_value : (x y : Float) → F64 x → F64 y → T (lt f0 x) → T (finite x) → T (eq x y) → x ≡ y
same_value x y f g positive fin h =
    let up = le_of_eq x y h in
    let down = le_of_eq y x (eq_flip x y h) in
    let x_from = le_of_lt f0 x positive in
    let a = fine_of x f x_from fin in
    let b = fine_of y g (le_trans f0 x y x_from up) (le-finite x y x fin fin up down) in
    let same : b.0 ≡ a.0 = le_antisymm (le_ext y x b.0 a.0 (inl (b.2, b.1)) (inl (a.2, a.1)) a.2 down) (le_ext x y a.0 b.0 (inl (a.2, a.1)) (inl (b.2, b.1)) b.2 up) in
    let some = lt-nil_pos x a.0 a.1 positive in
    unique x y false a.0 f g (fine_pos x a.0 a.1 some) (fine_pos y a.0 (subst (λ n. Fine y n) same b.1) some)

pub same_roughness : (x y : Float) → F64 x → F64 y → T (is_roughness x) → T (eq x y) → x ≡ y
unfolding is_roughness within roughness_min decimal lt le
same_roughness x y f g r h =
    let low = and_l (le roughness_min x) (le x f1) r in
    let high = and_r (le roughness_min x) (le x f1) r in
    same_value x y f g (lt_of_lt_of_le f0 roughness_min x tt low) (le-finite roughness_min x f1 tt tt low high) h
