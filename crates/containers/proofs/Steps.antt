-- The container policy, sandboxed documents and the declared origin, in the terms of the code. Assumes nothing.
use Rattle.features.specs.declared.DefaultAllowlist.TheVariants as star_or_self
use Rattle.features.specs.declared.DefaultAllowlist.{DefaultAllowlist}
use mathlib.Core.Path.{◌≡◌, refl, ap, ◌∙◌, sym}
use Prim.Native.Nat.{ℕ, ◌+◌, ◌-◌, ◌≤◌, ◌<◌}
use mathlib.Core.List.{List, ◌++◌}
use mathlib.Core.Bool.{Bool, true, false, not, ◌&&◌, ◌||◌}
use Rattle.std.specs.Prelude.{Option, Some, None}
use native.Mathlib.Omega.{arith}
use lib.ListN.{length, take, get_or, set, length-take, length-drop}
use lib.Seq.{get_or-set_same, get_or-set_other}
use lib.Dec.{eqb}
use borrow.Rule.Slice.PartMut.{put_mid, same_len_mid}
use Rattle.std.proofs.lemmas.Slice.{take-put_mid}
use borrow.Author.Tests.{not-true, not-false, eqb-true, eqb-false, eq-eqb, ne_eqb}
use Rattle.ascii.specs.Bytes.{pick}
use Rattle.ascii.specs.Literals.{text}
use Rattle.ascii.specs.declared.TextRange.{TextRange}
use Rattle.features.specs.Features.{feature_count, name_of, default_of}
use Rattle.features.specs.Features.Default.{star, self}
use Rattle.features.specs.Answers.{default_in, name_bytes}
use Rattle.origins.specs.Origins.{Origin, TupleOrigin, OriginSaid, origin_of}
use Rattle.origins.specs.Origins.Origin.{tuple}
use Rattle.origins.specs.Origins.OriginSaid.{says_empty, says_null, says_tuple, no_origin}
use Rattle.origins.specs.Answers.{origin_as, tuple_range, tuple_in}
use Rattle.origins.specs.declared.OriginText.{OriginText}
use Rattle.origins.specs.declared.OriginText.TheVariants as said
use Rattle.origins.specs.declared.TupleRange.{TupleRange}
use Rattle.origins.proofs.Laws.{tuple-range}
use Rattle.allowlists.specs.Allowlists.{empty_list, list_admits, some_admits}
use Rattle.allowlists.specs.Allowlists.Allowlist.{all}
use Rattle.allowlists.specs.Allowlists.Meaning.{src}
use Rattle.allowlists.proofs.Laws.{some-admits, none-admits, all-admits, empty-list}
use Rattle.pieces.specs.Pieces.{words, has_keyword}
use Rattle.pieces.specs.Words.{entry_list}
use Rattle.pieces.specs.Answers.{bare_in, words_in, entry_in, entry_at, IsEntries}
use Rattle.pieces.specs.declared.Bare.TheVariants as bare
use Rattle.containers.specs.Policies.{is_semicolon, fullscreen, plugins, entry_else, allowed_fullscreen, has_default_star, keyword_of, keyword_stands, sandbox_closes, closes_plugins, attribute_policy}
use Rattle.containers.specs.Sandboxes.{sandbox_words, allow_same_origin, without_same_origin, is_sandboxed, src_origin, fresh_if, declared_origin}
use Rattle.containers.specs.Answers.{policy_in, unnamed_as, policy_as, feature_as, policy_at, IsAllowName, IsPolicies, IsSandboxed, declared_in, declared_as, IsDeclared}
use Rattle.containers.specs.declared.AllowName.{AllowName}
use Rattle.containers.specs.declared.ContainerPolicy.{ContainerPolicy}
use Rattle.containers.specs.declared.ContainerPolicy.TheVariants as policy
use Rattle.containers.specs.declared.DeclaredOrigin.{DeclaredOrigin}
use Rattle.containers.specs.declared.DeclaredOrigin.TheVariants as declared

-- a name copied past `allow-`
abbrev pub blank : List ℕ
blank = text "allow-                                 "

pub name-is : (n len k : ℕ) (name m : List ℕ) → name ≡ name_of n → length name ≤ name_bytes → len ≡ 6 + length name → k ≡ len - 6 → m ≡ name → IsAllowName n (record { bytes = put_mid 6 k blank m; len = len })
name-is n len k name m is within e f g =
    rw g
    (record {
      is = take-put_mid 6 k blank name len e (omega arith) ∙ ap (λ (l : List ℕ). text "allow-" ++ l) is;
      within = rw (same_len_mid 6 k blank name (simp (length-take, length-drop) (omega arith))) (omega arith);
    })

-- whether a sandbox attribute closes a feature: by the mark, the default list and the keyword
module _ (stands : Bool) (s : List ℕ) (n : ℕ) where
  pub closes-absent : not stands ≡ true → false ≡ sandbox_closes (sandbox_words stands s) n
  unfolding sandbox_words sandbox_closes pick
  closes-absent t = rw (not-true stands t)

  present : not stands ≡ false → (r : Bool) → r ≡ sandbox_closes (Some (words s)) n → r ≡ sandbox_closes (sandbox_words stands s) n
  unfolding sandbox_words pick
  present t r e = rw (not-false stands t) e

  star-default : (d : Option DefaultAllowlist) → default_in d ≡ default_of n → d ≡ Some star_or_self.All → has_default_star n ≡ true
  unfolding has_default_star
  star-default d e k = let f : default_of n ≡ Some star = sym e ∙ ap default_in k in rw f

  pub closes-self : (d : Option DefaultAllowlist) → not stands ≡ false → default_in d ≡ default_of n → d ≡ Some star_or_self.SelfOnly → false ≡ sandbox_closes (sandbox_words stands s) n
  unfolding sandbox_closes has_default_star
  closes-self d t e k = let f : default_of n ≡ Some self = sym e ∙ ap default_in k in present t false (rw f)

  pub closes-none : (d : Option DefaultAllowlist) → not stands ≡ false → default_in d ≡ default_of n → d ≡ None → false ≡ sandbox_closes (sandbox_words stands s) n
  unfolding sandbox_closes has_default_star
  closes-none d t e k = let f : default_of n ≡ None = sym e ∙ ap default_in k in present t false (rw f)

  pub closes-plugins : (d : Option DefaultAllowlist) → not stands ≡ false → default_in d ≡ default_of n → d ≡ Some star_or_self.All → n ≡ plugins → true ≡ sandbox_closes (sandbox_words stands s) n
  unfolding sandbox_closes keyword_of keyword_stands pick
  closes-plugins d t e k q = present t true (rw (star-default d e k, eq-eqb n plugins q))

  pub closes-keyword : (d : Option DefaultAllowlist) (w : AllowName) (r : Bool) → not stands ≡ false → default_in d ≡ default_of n → d ≡ Some star_or_self.All → (n ≡ plugins → ⊥) → IsAllowName n w → r ≡ has_keyword (take w.len w.bytes) (words s) → not r ≡ sandbox_closes (sandbox_words stands s) n
  unfolding sandbox_closes keyword_of keyword_stands pick
  closes-keyword d w r t e k q is h = present t (not r) (rw (star-default d e k, ne_eqb n plugins q, h, is.is))

-- the policy of a feature that allow doesn't name, test by test
module _ (closes star r : Bool) (e : r ≡ closes) where
  pub unnamed-closed : r ≡ true → (Some policy.Empty) ≡ unnamed_as closes star
  unfolding unnamed_as pick
  unnamed-closed t = rw (← e, t)

  pub unnamed-star : r ≡ false → star ≡ true → (Some policy.All) ≡ unnamed_as closes star
  unfolding unnamed_as pick
  unnamed-star t q = rw (← e, t, q)

  pub unnamed-none : r ≡ false → star ≡ false → None ≡ unnamed_as closes star
  unfolding unnamed_as pick
  unnamed-none t q = rw (← e, t, q)

-- the policy of a feature by its entry
module _ (mark stands : Bool) (s : List ℕ) (n : ℕ) where
  closed-plugins : closes_plugins (sandbox_words stands s) n ≡ stands && eqb n plugins
  unfolding closes_plugins sandbox_words
  closed-plugins = go stands
    where
      go : (b : Bool) → closes_plugins (pick b (Some (words s)) None) n ≡ b && eqb n plugins
      go true = unfold pick in refl
      go false = unfold pick in refl

  pub feature-plugins : (e : Option TextRange) → stands && eqb n plugins ≡ true → (Some policy.Empty) ≡ feature_as mark (sandbox_words stands s) n e
  unfolding feature_as pick
  feature-plugins e t = rw (closed-plugins, t)

  pub feature-words : (e : Option TextRange) (w : TextRange) → stands && eqb n plugins ≡ false → e ≡ Some w → (Some (policy.Words w)) ≡ feature_as mark (sandbox_words stands s) n e
  unfolding feature_as pick
  feature-words e w t k = rw (closed-plugins, t, k)

  pub feature-unnamed : (e : Option TextRange) (r : Option ContainerPolicy) → stands && eqb n plugins ≡ false → e ≡ None → r ≡ unnamed_as (sandbox_closes (sandbox_words stands s) n) (mark && eqb n fullscreen) → r ≡ feature_as mark (sandbox_words stands s) n e
  unfolding feature_as pick
  feature-unnamed e r t k h = rw (closed-plugins, t, k) h

pub ruleset closings = (closes-absent, closes-self, closes-none, closes-plugins, closes-keyword)

-- the policies stored so far are those of the first features
pub record Stored (s : List ℕ) (mark : Bool) (sandbox : Option (List (List ℕ))) (i : ℕ) (r : List (Option ContainerPolicy)) : Type 0 where
  pub each : (n : ℕ) → n < i → get_or r n None ≡ policy_at s mark sandbox n

module _ (s : List ℕ) (mark : Bool) (sandbox : Option (List (List ℕ))) where
  pub none-stored : (r : List (Option ContainerPolicy)) → Stored s mark sandbox 0 r
  none-stored r = record { each = λ n h. absurd (omega arith) }

  feature-policy : (i : ℕ) (found : List (Option TextRange)) → i < feature_count → IsEntries is_semicolon s found → feature_as mark sandbox i (get_or found i None) ≡ policy_at s mark sandbox i
  unfolding policy_at
  feature-policy i found g es = rw (es.range i g)

  pub one-stored : (i : ℕ) (r : List (Option ContainerPolicy)) (found : List (Option TextRange)) (e : Option TextRange) (p : Option ContainerPolicy) → Stored s mark sandbox i r → length r ≡ feature_count → i < feature_count → IsEntries is_semicolon s found → e ≡ get_or found i None → p ≡ feature_as mark sandbox i e → Stored s mark sandbox (i + 1) (set r i p)
  one-stored i r found e p st h g es f k = record { each = λ n m. go n m (eqb n i) refl }
    where
      go : (n : ℕ) → n < i + 1 → (b : Bool) → eqb n i ≡ b → get_or (set r i p) n None ≡ policy_at s mark sandbox n
      go n m true t = let u : n ≡ i = eqb-true n i t in let lt : i < length r = omega arith in rw (u, get_or-set_same r i p None lt) (k ∙ (rw f (feature-policy i found g es)))
      go n m false t =
          let u : n ≡ i → ⊥ = eqb-false n i t in
          rw (get_or-set_other r i n p None u) (st.each n (omega arith))

  -- the policy of a feature says the list that the attributes give it
  unnamed-in : (n : ℕ) → policy_in s (unnamed_as (sandbox_closes sandbox n) (mark && eqb n fullscreen)) ≡ pick (sandbox_closes sandbox n) (Some empty_list) (allowed_fullscreen mark n)
  unfolding unnamed_as allowed_fullscreen
  unnamed-in n = go (sandbox_closes sandbox n) (mark && eqb n fullscreen)
    where
      go : (a b : Bool) → policy_in s (pick a (Some policy.Empty) (pick b (Some policy.All) None)) ≡ pick a (Some empty_list) (pick b (Some all) None)
      go true b = unfold pick in refl
      go false true = unfold pick in refl
      go false false = unfold pick in refl

  entry-in : (n : ℕ) (e : Option TextRange) → policy_in s (policy_as (unnamed_as (sandbox_closes sandbox n) (mark && eqb n fullscreen)) e) ≡ entry_else (pick (sandbox_closes sandbox n) (Some empty_list) (allowed_fullscreen mark n)) (entry_in s e)
  unfolding entry_else
  entry-in n (Some w) = refl
  entry-in n None = unnamed-in n

  policy-in : (n : ℕ) (e : Option TextRange) → policy_in s (feature_as mark sandbox n e) ≡ pick (closes_plugins sandbox n) (Some empty_list) (entry_else (pick (sandbox_closes sandbox n) (Some empty_list) (allowed_fullscreen mark n)) (entry_in s e))
  unfolding feature_as
  policy-in n e = go (closes_plugins sandbox n)
    where
      go : (b : Bool) → policy_in s (pick b (Some policy.Empty) (policy_as (unnamed_as (sandbox_closes sandbox n) (mark && eqb n fullscreen)) e)) ≡ pick b (Some empty_list) (entry_else (pick (sandbox_closes sandbox n) (Some empty_list) (allowed_fullscreen mark n)) (entry_in s e))
      go true = unfold pick in refl
      go false = unfold pick in (entry-in n e)

  at-says : (found : List (Option TextRange)) → IsEntries is_semicolon s found → (n : ℕ) → n < feature_count → policy_in s (policy_at s mark sandbox n) ≡ attribute_policy s mark sandbox n
  unfolding policy_at attribute_policy
  at-says found es n g =
      policy-in n (entry_at is_semicolon s n)
      ∙ ap (λ (e : Option (List (List ℕ))). pick (closes_plugins sandbox n) (Some empty_list) (entry_else (pick (sandbox_closes sandbox n) (Some empty_list) (allowed_fullscreen mark n)) e))
      (ap (entry_in s) (sym (es.range n g)) ∙ es.says n g)

  pub policies-are : (i : ℕ) (r : List (Option ContainerPolicy)) (found : List (Option TextRange)) → Stored s mark sandbox i r → feature_count ≤ i → IsEntries is_semicolon s found → IsPolicies s mark sandbox r
  policies-are i r found st h es = record { says = λ n g. ap (policy_in s) (st.each n (omega arith)) ∙ at-says found es n g; range = λ n g. st.each n (omega arith) }

-- whether a policy admits an origin, case by case
module _ (s : List ℕ) (p : Option ContainerPolicy) (a b : Bool) (o : Origin) where
  pub admits-none : p ≡ None → None ≡ some_admits (policy_in s p) a b o
  admits-none k = rw (k, none-admits a b o)

  pub admits-all : p ≡ Some policy.All → (Some true) ≡ some_admits (policy_in s p) a b o
  admits-all k = rw (k, some-admits all a b o, all-admits a b o)

  pub admits-empty : p ≡ Some policy.Empty → (Some false) ≡ some_admits (policy_in s p) a b o
  admits-empty k = rw (k, some-admits empty_list a b o, empty-list a b o)

  pub admits-words : (w : TextRange) (t : Bool) (r : Option Bool) → p ≡ Some (policy.Words w) → t ≡ list_admits (entry_list (bare_in bare.SrcOrigin) (words_in s w)) a b o → r ≡ Some t → r ≡ some_admits (policy_in s p) a b o
  admits-words w t r k h g = rw (k, some-admits (entry_list src (words_in s w)) a b o, ← h) g

-- a sandboxed document, test by test
module _ (c h : Bool) (s : List ℕ) where
  by-record : (r : Bool) → r ≡ c || without_same_origin (sandbox_words h s) → IsSandboxed c h s r
  by-record r e = record { is = e; says = λ a f g. e ∙ (unfold is_sandboxed in (rw (f, g))) }

  pub sandbox-container : c ≡ true → IsSandboxed c h s true
  sandbox-container t = by-record true (rw t)

  pub sandbox-absent : c ≡ false → not h ≡ true → IsSandboxed c h s false
  sandbox-absent t k = by-record false (unfold sandbox_words without_same_origin pick in (rw (t, not-true h k)))

  pub sandbox-words : c ≡ false → not h ≡ false → (r : Bool) → r ≡ has_keyword allow_same_origin (words s) → IsSandboxed c h s (not r)
  sandbox-words t k r is = by-record (not r) (unfold sandbox_words without_same_origin pick in (rw (t, not-false h k, is)))

-- the declared origin, by what src says
declared-said : (s : List ℕ) (container : Origin) (sandboxed : Bool) (x : OriginSaid) → ((o : TupleOrigin) → x ≡ says_tuple o → tuple_in s (tuple_range o) ≡ o) → declared_in s container (declared_as sandboxed (origin_as x)) ≡ fresh_if sandboxed (src_origin x container)
unfolding declared_as src_origin fresh_if pick
declared-said s container true says_empty f = refl
declared-said s container false says_empty f = refl
declared-said s container true says_null f = refl
declared-said s container false says_null f = refl
declared-said s container true (says_tuple o) f = refl
declared-said s container false (says_tuple o) f = ap (λ (t : TupleOrigin). Some (tuple t)) (f o refl)
declared-said s container sandboxed no_origin f = refl

declared-is : (sandboxed : Bool) (x : Option OriginText) (r : Option DeclaredOrigin) → r ≡ declared_as sandboxed x → IsDeclared sandboxed x r
declared-is sandboxed x r is =
    record {
      says = λ a above container e read. ap (declared_in a.src container) (is ∙ ap (declared_as sandboxed) read) ∙ (declared-said a.src container sandboxed (origin_of a.src) (λ o f. tuple-range a.src o f) ∙ (unfold declared_origin in (rw e)));
      range = is;
    }

module _ (sandboxed : Bool) (x : Option OriginText) where
  pub declared-bad : x ≡ None → IsDeclared sandboxed x None
  declared-bad k = declared-is sandboxed x None (unfold declared_as in (rw k))

  pub declared-null : x ≡ Some said.Null → IsDeclared sandboxed x (Some declared.Fresh)
  declared-null k = declared-is sandboxed x (Some declared.Fresh) (unfold declared_as in (rw k))

  pub declared-empty-fresh : x ≡ Some said.Empty → sandboxed ≡ true → IsDeclared sandboxed x (Some declared.Fresh)
  declared-empty-fresh k t = declared-is sandboxed x (Some declared.Fresh) (unfold declared_as pick in (rw (k, t)))

  pub declared-container : x ≡ Some said.Empty → sandboxed ≡ false → IsDeclared sandboxed x (Some declared.Container)
  declared-container k t = declared-is sandboxed x (Some declared.Container) (unfold declared_as pick in (rw (k, t)))

  pub declared-tuple-fresh : (r : TupleRange) → x ≡ Some (said.Tuple r) → sandboxed ≡ true → IsDeclared sandboxed x (Some declared.Fresh)
  declared-tuple-fresh r k t = declared-is sandboxed x (Some declared.Fresh) (unfold declared_as pick in (rw (k, t)))

  pub declared-src : (r : TupleRange) → x ≡ Some (said.Tuple r) → sandboxed ≡ false → IsDeclared sandboxed x (Some (declared.Src r))
  declared-src r k t = declared-is sandboxed x (Some (declared.Src r)) (unfold declared_as pick in (rw (k, t)))

pub ruleset declareds = (declared-bad, declared-null, declared-empty-fresh, declared-container, declared-tuple-fresh, declared-src)
