-- What a call for a sample gives, by what was sought.
-- Assumes nothing.
use Prim.Native.Nat.{ℕ, ◌+◌}
use mathlib.Core.Path.{◌≡◌, sym, ◌∙◌, ap}
use mathlib.Core.List.{List}
use Rattle.answers.specs.Readings.{Answer, refused}
use Rattle.answers.specs.Outcomes.{outcome_of}
use Rattle.answers.specs.Samples.{Stored as ReadStored, stored_sample, asking, sampling, sample_outcome}
use Rattle.answers.proofs.Laws.{step, stop}
use Rattle.reading.specs.declared.Channel.{Channel}
use Rattle.reading.specs.Steps.{the_channel, channel_place, Asks}
use Rattle.std.specs.Prelude.{Result, Err}
use Rattle.refusal.specs.declared.Refusal.{Refusal}
use Rattle.refusal.specs.Refused.{number_of, answer_of}
use Rattle.stored.specs.declared.Stored.{Stored}
use Rattle.stored.specs.Stored.{stored_of, Fits, RowAt, LoggedAt, SampleIs}

module _ (image : List ℕ) (group channel row : ℕ) where
  pub sample_is : (r : Result Stored Refusal) → answer_of stored_of r ≡ sampling image group channel row → Fits image r → SampleIs image group channel row r
  unfolding sample_outcome
  sample_is r e f = record { outcome_is = ap outcome_of e; is = e; fits = f }

  pub sampling_refused : (e : Refusal) → asking image group channel row ≡ refused (number_of e.reason) e.place → SampleIs image group channel row (Err e)
  unfolding sampling
  sampling_refused _ e = sample_is _ (sym (stop _ e)) tt

  module _ (c : Channel) (place size : ℕ) (a : Asks image group channel row c place size) where
    pub row_at : RowAt image c place size
    row_at = record { image_is = a.image_is; bits = a.well_formed.bits; inside = a.inside }

    pub logged_at : LoggedAt image place size a.asked.row
    logged_at = record { begins = a.row_place; content = a.row_content }

    pub sampling_found : {r : Answer ReadStored} → r ≡ stored_sample (the_channel c).fields (channel_place c + 190) a.asked.row → r ≡ sampling image group channel row
    unfolding sampling
    sampling_found e = e ∙ sym (step _ a.is (rw (a.fields, a.cn_place)))
