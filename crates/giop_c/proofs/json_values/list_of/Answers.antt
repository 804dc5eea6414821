use Rattle.std.proofs.Common.{◌≡◌, ◌⊎◌, ◌++◌, ◌∷◌, [], Bool, true, false, Result, Ok, Err, map, inl, inr, sym, ap, ◌∙◌, arith}
use Rattle.std.specs.Result.{IsErrAnd}
use Rattle.std.proofs.lemmas.Bool.{true_from_ne_false}
use Rattle.std.proofs.lemmas.Grind.{common_steps}
use Rattle.serde_json.specs.Data.{array}
use Rattle.serde_json.specs.View.{items_of, view}
use Rattle.serde_json.specs.declared.value.Value.{Value as Json}
use Rattle.serde_json.proofs.Views.{view-Array}
use Rattle.giop_json.specs.declared.form_fault.FormFault.{FormFault}
use Rattle.giop_json.specs.declared.form_fault.FormFault.TheVariants.{NoMemory, Unfit}
use Rattle.giop_types.specs.Descriptions.CheckedShape.{checked_shape}
use Rattle.giop_json.specs.declared.number_form.NumberForm.TheVariants.{Plain}
use Rattle.giop_json.specs.ToJson.{to_data}
use Rattle.giop_types.specs.Values.Fits.{fields_fit, fits}
use Rattle.giop_types.specs.Values.Views.{value_view}
use Rattle.giop_msg.specs.Messages.Body.{fields_in}
use Rattle.giop_msg.proofs.WholeMessages.ParameterLoops.{all_fit, fit_differ, fit_failed, fit_passed}
use Rattle.giop_c.specs.JsonValues.{each_data}
use Rattle.giop_c.proofs.ValueLoops.{all_made, one_made}
use Rattle.giop_c.proofs.json_values.list_of.Goals as goal

is_unfit : (r : Result Json FormFault) (e : FormFault) → IsErrAnd r (λ x. x ≡ e) → r ≡ Err Unfit → e ≡ Unfit
is_unfit (Ok json) e same told = absurd cc
is_unfit (Err x) e same told = cc

why_unfit : (e : FormFault) (b : Bool) → e ≡ Unfit → ((e ≡ Unfit) × (b ≡ false)) ⊎ (e ≡ NoMemory) → b ≡ false
why_unfit e b unfit (inl why) = why.1
why_unfit e b unfit (inr want) = absurd cc

pub returns-then-parameters-values-clause-err : goal.returns-then-parameters-values-clause-err
returns-then-parameters-values-clause-err c told = fit_differ c.args.parameters.now c.args.values.now c.if-parameters-values.true

pub returns-in_err-json-clause-err : goal.returns-in_err-json-clause-err
returns-in_err-json-clause-err c told =
    let l = c.loop-i in
    let ps = c.args.parameters.now in
    let vs = c.args.values.now in
    let p = c.index-parameters-i in
    let v = c.index-values-i in
    let unfit = is_unfit c.from_residual-in_err-json.result c.in_err-json.field-0.0 c.from_residual-in_err-json.ensures.1 told in
    let fails = why_unfit c.in_err-json.field-0.0 _ unfit (rw (← p.is) at c.in_err-json.ensures.err) in
    sym (fit_failed ps vs l.i p.result v.result _ c.loop-i-test.true l.invariant.as_many p.is v.is fails l.invariant.fit)

pub loop-i-preserved : goal.loop-i-preserved
loop-i-preserved c =
    let l = c.loop-i in
    let ps = c.args.parameters.now in
    let vs = c.args.values.now in
    let p = c.index-parameters-i in
    let v = c.index-values-i in
    let shape = checked_shape p.result.desc in
    let tree = value_view v.result in
    let pushed : map view c.push.new.self.items ≡ map view l.list.items ++ view c.in_ok-json.json ∷ [] = grind (arith, common_steps) in
    let made : map view c.push.new.self.items ≡ map view l.list.items ++ to_data Plain shape tree ∷ [] =
    pushed ∙ ap (λ d. map view l.list.items ++ d ∷ []) (rw (← p.is) at c.in_ok-json.ensures.value) in
    let passes : fits shape tree ≡ true = true_from_ne_false _ (λ fails. let e = (rw (← p.is) at c.in_ok-json.ensures.only) fails in cc) in
    record {
      so_far = rw made (one_made (map view l.list.items) ps vs l.i p.result v.result _ c.loop-i-test.true l.invariant.as_many p.is v.is l.invariant.so_far);
      fit = fit_passed ps vs l.i p.result v.result _ c.loop-i-test.true l.invariant.as_many p.is v.is passes l.invariant.fit;
      as_many = l.invariant.as_many;
    }

pub returns-clause-value : goal.returns-clause-value
returns-clause-value c = view-Array c.loop-i.list ∙ ap (λ ds. array (items_of ds))
    (all_made (map view c.loop-i.list.items) c.args.parameters.now c.args.values.now c.loop-i.i
    (each_data c.args.parameters.now (map value_view c.args.values.now)) c.loop-i-test.false c.loop-i.invariant.so_far)

pub returns-clause-fit : goal.returns-clause-fit
returns-clause-fit c =
    sym (all_fit c.args.parameters.now c.args.values.now c.loop-i.i (fields_fit (fields_in c.args.parameters.now) (map value_view c.args.values.now))
    c.loop-i-test.false c.loop-i.invariant.as_many c.loop-i.invariant.fit)
