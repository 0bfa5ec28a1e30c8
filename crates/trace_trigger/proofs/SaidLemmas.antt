-- What a text says, by what it begins with.
use Rattle.std.proofs.Common.{◌≡◌, ◌≢◌, ℕ, true, false, ◌||◌, if◌then◌else◌, codes, List, Result, Ok, Err, sym, ap, ◌∙◌, subst}
use Rattle.std.specs.List.{list_all}
use Rattle.trace_lex.specs.Blanks.{is_blank}
use Rattle.trace_format.specs.Definitions.{Definition}
use Rattle.trace_trigger.specs.declared.fault.TriggerFault.{TriggerFault}
use Rattle.trace_trigger.specs.declared.fault.TriggerFault.TheVariants.{BadText}
use Rattle.trace_trigger.specs.declared.fault.TextCause.{TextCause}
use Rattle.trace_trigger.specs.declared.trigger.TriggerText.{TriggerText}
use Rattle.trace_trigger.specs.declared.trigger.TriggerText.TheVariants.{Nothing, Hist, RemoveHist}
use Rattle.trace_trigger.specs.TriggerAnswers.{◌>>=◌, IsTold}
use Rattle.trace_trigger.specs.HistSpecs.{SpecSeen}
use Rattle.trace_trigger.specs.HistTexts.{spec_of}
use Rattle.trace_trigger.specs.TriggerTexts.{begins, is_hist_text, snapshot_said, said_of}
use Rattle.trace_trigger.proofs.MeantLaws.{told_as}

abbrev pub hist_said : (SpecSeen → TriggerText) → Result SpecSeen TriggerFault → Result TriggerText TriggerFault
hist_said made answer = answer >>= λ spec. Ok (made spec)

abbrev pub attached : SpecSeen → TriggerText
attached spec = Hist spec

abbrev pub removed : SpecSeen → TriggerText
removed spec = RemoveHist spec

module _ (definition : Definition) (text : List ℕ) where
  abbrev unless_hist : Result TriggerText TriggerFault
  unless_hist = if begins (codes "!hist:") text then hist_said removed (spec_of definition text) else snapshot_said definition text

  abbrev unless_blank : Result TriggerText TriggerFault
  unless_blank = if begins (codes "hist:") text then hist_said attached (spec_of definition text) else unless_hist

  module _ (some : list_all is_blank text ≡ false) where
    not_blank : said_of definition text ≡ unless_blank
    unfolding said_of
    not_blank = ap (λ b. if b then Ok Nothing else unless_blank) some

    pub said_attached : begins (codes "hist:") text ≡ true → said_of definition text ≡ hist_said attached (spec_of definition text)
    said_attached begun = not_blank ∙ ap (λ b. if b then hist_said attached (spec_of definition text) else unless_hist) begun

    module _ (other : begins (codes "hist:") text ≡ false) where
      not_attached : said_of definition text ≡ unless_hist
      not_attached = not_blank ∙ ap (λ b. if b then hist_said attached (spec_of definition text) else unless_hist) other

      pub said_removed : begins (codes "!hist:") text ≡ true → said_of definition text ≡ hist_said removed (spec_of definition text)
      said_removed begun = not_attached ∙ ap (λ b. if b then hist_said removed (spec_of definition text) else snapshot_said definition text) begun

      pub said_snapshot : begins (codes "!hist:") text ≡ false → said_of definition text ≡ snapshot_said definition text
      said_snapshot neither = not_attached ∙ ap (λ b. if b then hist_said removed (spec_of definition text) else snapshot_said definition text) neither

  -- a text of a hist trigger
  pub is_attached : begins (codes "hist:") text ≡ true → is_hist_text text ≡ true
  is_attached begun = ap (λ b. b || begins (codes "!hist:") text) begun

  pub is_removed : begins (codes "hist:") text ≡ false → begins (codes "!hist:") text ≡ true → is_hist_text text ≡ true
  is_removed other begun = ap (λ b. b || begins (codes "!hist:") text) other ∙ begun

  -- a text that says what is read of a hist trigger
  module _ (made : SpecSeen → TriggerText) (said : said_of definition text ≡ hist_said made (spec_of definition text)) where
    pub hist_ok : (spec : SpecSeen) → spec_of definition text ≡ Ok spec → said_of definition text ≡ Ok (made spec)
    hist_ok spec e = said ∙ ap (hist_said made) e

    pub hist_told : (fault : TriggerFault) → IsTold fault (spec_of definition text) → IsTold fault (said_of definition text)
    hist_told fault told = subst (IsTold fault) (sym said) (told_as fault (spec_of definition text) (λ spec. Ok (made spec)) told)

    pub hist_never_bad : (cause : TextCause) → spec_of definition text ≢ Err (BadText cause) → said_of definition text ≢ Err (BadText cause)
    hist_never_bad cause known = λ bad. by (spec_of definition text) known (sym said ∙ bad)
      where
        by : (answer : Result SpecSeen TriggerFault) → answer ≢ Err (BadText cause) → hist_said made answer ≡ Err (BadText cause) → ⊥
        by (Ok spec) never e = cc
        by (Err fault) never e = never (let same : fault ≡ BadText cause = cc in ap (λ (f : TriggerFault). Err f) same)
