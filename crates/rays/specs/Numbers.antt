-- What a line has of numbers that stand one after the other. Definitions only.
use Rattle.std.specs.Prelude.{Result, Ok}
use Rattle.numbers.specs.declared.vec3.Vec3.{Vec3}
use Rattle.optics.specs.declared.color.Color.{Color}
use Rattle.text.specs.declared.faults.Fault.{Fault}
use Rattle.text.specs.Line.{Left, number, past_number, and_then}

-- what is left behind so many numbers
abbrev pub past_two : Left → Left
past_two l = past_number (past_number l)

abbrev pub past_three : Left → Left
past_three l = past_number (past_two l)

abbrev pub past_four : Left → Left
past_four l = past_number (past_three l)

-- three numbers are x, y, z in this order; the first fault ends the reading
unfoldable pub vec3 : Left → Result Vec3 Fault
vec3 l =
    and_then (number l) (λ x. and_then (number (past_number l)) (λ y. and_then (number (past_two l)) (λ z.
    Ok (record { x = x; y = y; z = z }))))

-- four are s0, s1, s2, s3 in this order
unfoldable pub color : Left → Result Color Fault
color l =
    and_then (number l) (λ a. and_then (number (past_number l)) (λ b. and_then (number (past_two l)) (λ c. and_then (number (past_three l)) (λ d.
    Ok (record { s0 = a; s1 = b; s2 = c; s3 = d })))))
