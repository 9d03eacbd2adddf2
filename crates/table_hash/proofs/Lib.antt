mod NumberWords
mod Words
