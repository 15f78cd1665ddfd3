use mathlib.Core.Path.{sym, ap, ◌∙◌}
use borrow.Author.Tests.{le-ltb}
use Rattle.std.specs.Result.{result_ok}
use Rattle.script.specs.Starting.{started_of}
use Rattle.script.proofs.Starts.{bad_count, good_count}
use Rattle.script.proofs.starting.begin.Goals as goal

pub returns-then-not-count_is_sound : goal.returns-then-not-count_is_sound
unfolding started_of
returns-then-not-count_is_sound c =
    rw (le-ltb 65536 _ c.if-script-gt-MOST_BYTES.false, ← c.line_at.ensures, ← c.stations_of.ensures, c.ok_or.ensures.ok_part ∙ ap result_ok c.in_ok-count.was)
    (sym (bad_count _ _ (sym c.count_is_sound.ensures ∙ c.if-not-count_is_sound.true)))

pub returns : goal.returns
unfolding started_of
returns c =
    rw (le-ltb 65536 _ c.if-script-gt-MOST_BYTES.false, ← c.line_at.ensures, ← c.stations_of.ensures, c.ok_or.ensures.ok_part ∙ ap result_ok c.in_ok-count.was, c.fresh_table.ensures, c.past_line.ensures)
    (sym (good_count _ _ (sym c.count_is_sound.ensures ∙ c.if-not-count_is_sound.false)))
