-- What is held after a surface was made in its place (`held_made`).
use Rattle.std.proofs.Common.{ℕ, ◌%◌, Option, Some, None, Result, Ok, Err, List, get_or, set, refl}
use Rattle.std.proofs.lemmas.List.{set-get_or}
use Rattle.numbers.specs.Refusal.{Answer}
use Rattle.numbers.specs.declared.refusal.Refusal.{Refusal}
use Rattle.book.specs.declared.record.Record.{Record}
use Rattle.book.specs.Surfaces.{Offered}
use Rattle.book.specs.Record.{MadeIn}
use Rattle.jobs.specs.Making.{HeldAs}

pub held_made : (n i : ℕ) (made : Answer Offered) (result : Result (Unit {0}) Refusal) (before : List (Option Record)) (x place : Option Record)
    → MadeIn made result (get_or before (i % n) x) place → HeldAs n i made result before (set before (i % n) place)
held_made n i made (Ok done) before x (Some r) h = (r, (h, refl))
held_made n i made (Ok done) before x None h = absurd h
held_made n i made (Err why) before x place h = (rw h.0 (set-get_or before (i % n) x), h.1)
