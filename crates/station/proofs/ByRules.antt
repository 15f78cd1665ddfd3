-- A station's add, draw and receiving are those of its stock and of its side. Assumes nothing.
use Prim.Native.Nat.{ℕ, zero, suc}
use mathlib.Core.Path.{◌≡◌, refl, ap, sym, ◌∙◌}
use mathlib.Core.Bool.{Bool, true, false, cond}
use lib.Dec.{ltb}
use borrow.Author.Tests.{le-leb, le-ltb, eq-eqb}
use Rattle.rules.specs.declared.message.Message.{Message}
use Rattle.rules.specs.declared.stock.Stock.{Stock}
use Rattle.rules.specs.declared.taking.Taken.{Taken}
use Rattle.ground.specs.declared.refusal.Refusal.{Refusal}
use Rattle.ground.specs.Tested.{number_of}
use Rattle.ground.proofs.Tested.{refused_not_done}
use Rattle.ground.specs.Answers.{done, value_limit}
use Rattle.ground.specs.Limits.{most_value}
use Rattle.rules.specs.Rules.{fill}
use Rattle.rules.specs.Taking.{five_rules, take_answer, taken_of}
use Rattle.rules.specs.Stock.{stocked, add_to_answer, add_done, added_to, draw_from_answer, draw_done, drawn_from}
use Rattle.ground.proofs.Refusing.{answer_before}
use Rattle.ground.proofs.Choices.{when_done, when_refused}
use Rattle.rules.proofs.Refusing.{take_tells, take_done}
use Rattle.station.specs.declared.station.Station.{Station}
use Rattle.station.specs.Side.{side_for}
use Rattle.station.specs.Sound.{station_sound}
use Rattle.station.specs.Outcome.{refused, answered}
use Rattle.station.specs.Steps.{stock_outcome, add_answer, add_of, draw_answer, draw_of, meet_refusals, meet_answer, fill_refusals, receive_answer, received, receive_of}
use Rattle.station.proofs.Parts.{station_parts, message_parts, token_small_lem}
use Rattle.station.proofs.Answering.{met}

-- a stock that is refused leaves the station as it was
stock_tells : (n : ℕ) (s : Station) (k : Stock) → stock_outcome s (stocked n s.value s.intake k) ≡ answered n s (stock_outcome s k)
stock_tells zero s k = refl
stock_tells (suc n) s k = refl

module _ (s : Station) (amount : ℕ) (sound : station_sound s ≡ true) where
  pub add_by_stock : stock_outcome s (added_to s.value s.intake amount) ≡ add_of s amount
  unfolding added_to add_of
  add_by_stock =
      let w = station_parts s sound in
      let same : add_to_answer s.value s.intake amount ≡ add_answer s amount = rw (sound, le-leb _ _ w.value, le-leb _ _ w.intake) in
      let d = add_done s.value s.intake amount in
      stock_tells (add_to_answer s.value s.intake amount) s d ∙ ap (λ (n : ℕ). answered n s (stock_outcome s d)) same

  pub draw_by_stock : stock_outcome s (drawn_from s.value s.intake amount) ≡ draw_of s amount
  unfolding drawn_from draw_of
  draw_by_stock =
      let w = station_parts s sound in
      let same : draw_from_answer s.value s.intake amount ≡ draw_answer s amount = rw (sound, le-leb _ _ w.value, le-leb _ _ w.intake) in
      let d = draw_done s.value s.intake amount in
      stock_tells (draw_from_answer s.value s.intake amount) s d ∙ ap (λ (n : ℕ). answered n s (stock_outcome s d)) same

pub unsound_add : (s : Station) (amount : ℕ) → station_sound s ≡ false → refused 1 s ≡ add_of s amount
unfolding add_of
unsound_add s amount e = rw e

pub unsound_draw : (s : Station) (amount : ℕ) → station_sound s ≡ false → refused 1 s ≡ draw_of s amount
unfolding draw_of
unsound_draw s amount e = rw e

limit_or_done : (t : Bool) → (cond t value_limit done ≡ 0 → ⊥) → value_limit ≡ cond t value_limit done
limit_or_done true f = refl
limit_or_done false f = absurd (f refl)

module _ (s : Station) (m : Message) where
  pub receive_unmet : (meet_answer s m ≡ 0 → ⊥) → refused (meet_answer s m) s ≡ receive_of s m
  unfolding receive_of
  receive_unmet f =
      let d = received s m (five_rules (side_for s m.from) m) in
      when_refused (meet_answer s m) d (refused (meet_answer s m) s) f ∙ ap (λ (n : ℕ). answered n s d) (sym (answer_before (meet_refusals s m) (fill_refusals s m) f))

  pub receive_unmet_by : (r : Refusal) → number_of r ≡ meet_answer s m → refused (number_of r) s ≡ receive_of s m
  receive_unmet_by r p = rw p (receive_unmet (λ z. refused_not_done r (p ∙ z)))

  module _ (e : meet_answer s m ≡ 0) where
    same_answer : take_answer (side_for s m.from) m ≡ receive_answer s m
    same_answer =
        let g = met s m e in
        let w = station_parts s g.sound in
        let shows = message_parts m g.message in
        rw (
          g.sound,
          g.message,
          g.ends,
          eq-eqb m.to s.number g.to,
          le-ltb _ _ w.value,
          le-leb _ _ shows.value,
          token_small_lem m.token m.source shows.token,
        )

    only_limit : take_answer (side_for s m.from) m ≡ cond (ltb most_value (fill (side_for s m.from) m).side.value) value_limit done
    only_limit =
        let g = met s m e in
        let w = station_parts s g.sound in
        let shows = message_parts m g.message in
        rw (le-ltb _ _ w.value, le-leb _ _ shows.value, token_small_lem m.token m.source shows.token)

    told_answer : (taken_of (side_for s m.from) m).answer ≡ receive_answer s m
    told_answer = take_tells (side_for s m.from) m ∙ same_answer

    -- of what was met, only a fill past the limit is still refused
    past_limit : ((taken_of (side_for s m.from) m).answer ≡ 0 → ⊥) → value_limit ≡ receive_answer s m
    past_limit f = limit_or_done _ (λ z. f (told_answer ∙ (sym same_answer ∙ (only_limit ∙ z)))) ∙ (sym only_limit ∙ same_answer)

    pub receive_refused : ((taken_of (side_for s m.from) m).answer ≡ 0 → ⊥) → refused value_limit s ≡ receive_of s m
    unfolding receive_of
    receive_refused f =
        ap (λ (n : ℕ). refused n s) (past_limit f)
        ∙ (when_refused (receive_answer s m) (received s m (five_rules (side_for s m.from) m)) (refused (receive_answer s m) s) (λ z. f (told_answer ∙ z)))

    pub receive_done : (taken_of (side_for s m.from) m).answer ≡ 0 → received s m (taken_of (side_for s m.from) m) ≡ receive_of s m
    unfolding receive_of
    receive_done z =
        let x = side_for s m.from in
        ap (λ (t : Taken). received s m t) (take_done x m (sym (take_tells x m) ∙ z)) ∙ when_done (received s m (five_rules x m)) _ (sym told_answer ∙ z)
