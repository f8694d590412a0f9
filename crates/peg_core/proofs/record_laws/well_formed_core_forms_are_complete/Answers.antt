use Rattle.std.proofs.Math.Logic.{∥∥₁_elim}
use Rattle.peg_core.proofs.CoreComplete.{forms-have_records, calls-have_records}
use Rattle.peg_core.proofs.record_laws.well_formed_core_forms_are_complete.Goals as goal

pub returns : goal.returns
returns c = record {
  calls = calls-have_records;
  forms = forms-have_records;
  merely = λ core rounds spelled within fine text rule position less here.
      ∥∥₁_elim fine (hlevel)
      (λ fine. calls-have_records core rounds spelled within fine text rule position less here);
  merely_forms = λ core rounds spelled within fine text number position less here.
      ∥∥₁_elim fine (hlevel)
      (λ fine. forms-have_records core rounds spelled within fine text number position less here);
}
