-- What is told of a name: by tables of texts, each of which begins with the name that it is on.
use Rattle.std.specs.Prelude.{ℕ, Bool, ◌||◌, ◌==◌, cond, List, [], ◌++◌, map, codes}
use Rattle.std.specs.List.{concat, before_first}
use Rattle.std.specs.Str.{bytes_eq}
use Rattle.grib_topics.specs.declared.table.TheConstants.{COMMANDS, KEYS, FIRST_KEYS, REFUSALS, CAUSES, LOSSES, DEMOTIONS}

abbrev pub is_blank : ℕ → Bool
is_blank octet = octet == 32

abbrev pub first_word : List ℕ → List ℕ
first_word text = before_first is_blank text

-- whether a text is on this name
abbrev pub is_text_on : List ℕ → List ℕ → Bool
is_text_on name text = bytes_eq (first_word text) name

-- whether a name is that of the page, or the first word of the text
abbrev pub is_on : List ℕ → List ℕ → List ℕ → Bool
is_on page name text = bytes_eq name page || is_text_on name text

-- a text of a page where the name is that of the page, or the text's own; else nothing
abbrev pub text_if_on : List ℕ → List ℕ → List ℕ → List ℕ
text_if_on page name text = cond (is_on page name text) text []

-- the texts of a page that are on this name, or all of them where it is that of the page
abbrev pub texts_of : List ℕ → List ℕ → List (List ℕ) → List ℕ
texts_of page name texts = concat (map (text_if_on page name) texts)

abbrev pub command_texts : List (List ℕ)
command_texts = map (λ text. text.now) COMMANDS

abbrev pub key_texts : List (List ℕ)
key_texts = map (λ text. text.now) KEYS

-- those on keys of edition 1
abbrev pub first_key_texts : List (List ℕ)
first_key_texts = map (λ text. text.now) FIRST_KEYS

abbrev pub refusal_texts : List (List ℕ)
refusal_texts = map (λ text. text.now) REFUSALS

abbrev pub cause_texts : List (List ℕ)
cause_texts = map (λ text. text.now) CAUSES

abbrev pub loss_texts : List (List ℕ)
loss_texts = map (λ text. text.now) LOSSES

abbrev pub demotion_texts : List (List ℕ)
demotion_texts = map (λ text. text.now) DEMOTIONS

-- what is told of a name; nothing where neither a page nor a text has it
unfoldable pub told_of : List ℕ → List ℕ
told_of name =
    texts_of (codes "commands") name command_texts ++ texts_of (codes "keys") name key_texts
    ++ texts_of (codes "keys") name first_key_texts ++ texts_of (codes "refusals") name refusal_texts ++ texts_of (codes "causes") name cause_texts
    ++ texts_of (codes "causes") name loss_texts ++ texts_of (codes "causes") name demotion_texts
