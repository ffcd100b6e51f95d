-- Demand 3 over lists of bounces on a book's surfaces and others (`demand_3_on_books`), and that each list is that of a run (`book_run_for_every`).
-- What the contract gives for a step is what path's gives for the step that the reckoning is fed (`as_step`): so such a list is a `Run` of path's `Demand3` (`run_of`), and what holds after each of its bounces is what holds there.
use mathlib.Core.Path.{◌≡◌, refl, sym, ap, ◌∙◌}
use mathlib.Core.List.{List, [], ◌∷◌}
use Rattle.path.specs.declared.records.Path.{Path}
use Rattle.path.specs.Path.{path, ones}
use Rattle.path.specs.Answer.{outcome, bounce, path_of}
use Rattle.path.specs.Demand3 as Path
use Rattle.path.specs.Demand3.{ColorF64, Run, Answered}
use Rattle.path.proofs.Demand3.{demand_3}
use Rattle.path.proofs.Answers.{answers}
use Rattle.book_path.specs.BookBounce.{bounce_on_book}
use Rattle.book_path.specs.Demand3.{BookStep, plain, on_book, step_of, bounce_of, BookRun, end, bounced, Throughout, Demand3OnBooks, BookStepsF64, steps_of, BookRunForEvery}

as_step : (p : Path) (s : BookStep) → bounce_of p s ≡ bounce p (step_of s).surface (step_of s).bounce
unfolding bounce_of bounce_on_book
as_step p (plain s) = refl
as_step p (on_book o b) = refl

run_of : {p : Path} → BookRun p → Run p
run_of end = Path.end
run_of {p} (bounced s f a c q e run) = Path.bounced (step_of s) f a (c ∙ as_step p s) q e (run_of run)

throughout : {p : Path} (r : Path) (run : BookRun p) → Path.Throughout r (run_of run) → Throughout r run
unfolding Throughout Path.Throughout run_of
throughout r end holds = tt
throughout r (bounced s f a c q e run) (here, there) = (here, throughout _ run there)

pub demand_3_on_books : Demand3OnBooks
unfolding Demand3OnBooks Path.Demand3
demand_3_on_books lambda f run = throughout (path lambda ones) run (demand_3 lambda f (run_of run))

-- ---- a run for every list of steps
pub book_run_for_every : BookRunForEvery
unfolding BookRunForEvery BookStepsF64 steps_of Answered
book_run_for_every p [] h = (end, refl)
book_run_for_every p (s ∷ steps) h =
    let a = answers p (step_of s) in
    let next = book_run_for_every (path_of (outcome a.0)) steps h.1 in
    (bounced s h.0 a.0 (a.1 ∙ sym (as_step p s)) (path_of (outcome a.0)) refl next.0, ap (λ (l : List BookStep). s ∷ l) next.1)
