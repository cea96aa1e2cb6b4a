-- The law of histories, from what two engines did. Assumes nothing.
use Rattle.std.proofs.Common.{◌≡◌, ℕ, ◌+◌, List, length, vec_items, sym, ap, ◌∙◌, subst, subst₂}
use Rattle.theory.specs.declared.row.Row.{Row}
use Rattle.theory.specs.declared.sizes.Sizes.{Sizes}
use Rattle.theory.specs.Meaning.{Meaning, empty}
use Rattle.histories.specs.declared.Call.{Call}
use Rattle.histories.specs.declared.History.{History}
use Rattle.histories.specs.Steps.{Answer, Step}
use Rattle.histories.specs.Runs.{Run}
use Rattle.histories.specs.Told.{told, done_count, Rising, Tells}
use Rattle.histories.specs.Law.{Law}
use Rattle.histories.proofs.Same.{step_unique, run_unique, refused_keeps}
use Rattle.histories.proofs.Orderly.{Orderly, orderly_empty, run_orderly}
use Rattle.histories.proofs.Retold.{retold, told_count}

module _ (z : Sizes) (calls : List Call) (answers : List Answer) (stands : Meaning) (played : Run (empty z) calls answers stands) where
  orderly : Orderly z stands
  orderly = run_orderly z (empty z) stands calls answers played (orderly_empty z)

  -- the levels that a run leaves rise to the number of its rows
  pub rises : Rising 0 stands.levels (length stands.rows)
  rises = orderly.rising

  pub law : (next : Call) (h : History) (fresh other left left' : Meaning) (rows : List Row) (levels : List ℕ) → vec_items h.answers ≡ answers → fresh ≡ empty z → rows ≡ stands.rows → levels ≡ stands.levels → Tells fresh rows levels other h.taken → Step stands next h.first left → Step other next h.second left' → h.rows ≡ length stands.rows → h.levels ≡ length stands.levels → Law z calls next h
  law next h fresh other left left' rows levels same new rows_are levels_are telling first second row_count level_count =
      let all = retold z stands orderly in
      let begun = subst (λ m. Tells m rows levels other h.taken) new telling in
      let told_run = subst₂ (λ rs ls. Tells (empty z) rs ls other h.taken) rows_are levels_are begun in
      let one = run_unique (empty z) other stands (told stands) told_run.0 _ told_run.1 all in
      let here = subst (λ m. Step m next h.second left') one.1 second in
      let alike = step_unique stands left left' next h.first h.second first here in
      record {
        stands = stands;
        played = subst (λ bs. Run (empty z) calls bs stands) (sym same) played;
        rows = row_count;
        levels = level_count;
        retold = all;
        taken = told_run.2 ∙ ap done_count one.0 ∙ told_count z stands orderly ∙ (λ i. sym row_count i + sym level_count i);
        left = left;
        first = first;
        second = subst (Step stands next h.second) (sym alike.1) here;
        alike = alike.0;
        refusals = refused_keeps;
        unique = step_unique;
      }
